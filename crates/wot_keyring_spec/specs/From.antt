-- The certificates from a fingerprint on.
use Rattle.std.specs.Prelude.{Bool, true, Option, Some, None, filter}
use Rattle.std.specs.Ordering.{is_le}
use Rattle.wot_types.specs.declared.fpr.Fpr.{Fpr}
use Rattle.wot_types.specs.Fpr.{fpr_cmp}
use Rattle.wot_keyring_spec.specs.declared.kept.Kept.{Kept}
use Rattle.wot_keyring_spec.specs.Keyring.{Entries}

-- whether this fingerprint is the given one or comes after it; always true if none is given
abbrev pub is_from : Option Fpr → Fpr → Bool
is_from None fpr = true
is_from (Some from) fpr = is_le (fpr_cmp from fpr)

abbrev pub entries_from : Option Fpr → Entries → Entries
entries_from from entries = filter (λ (e : Fpr × Kept). is_from from e.0) entries
