-- What a later keyring has in common with an earlier one: if a stamp is the same, so is the certificate that has it.
use Rattle.std.specs.Prelude.{◌≡◌, ◌≤◌, ◌<◌, ◌⊎◌, Some, None}
use Rattle.std.specs.List.{AllByRecursion}
use Rattle.wot_types.specs.declared.fpr.Fpr.{Fpr}
use Rattle.wot_verdict.specs.Verdicts as verdicts
use Rattle.wot_verdict.specs.Verdicts.{verdict_at}
use Rattle.wot_component.specs.Certificate.{Signature}
use Rattle.wot_component.specs.Counts.{all_sigs}
use Rattle.wot_keyring_spec.specs.declared.kept.Kept.{Kept}
use Rattle.wot_keyring_spec.specs.Keyring.{Keyring, kept_at, stamp_at}

-- Both have the same verdict on the number of this signature.
abbrev pub SaysSame : verdicts.Entries → verdicts.Entries → Signature → Type 0
SaysSame said other s = verdict_at said s.number ≡ verdict_at other s.number

-- Under a fingerprint the same certificate is kept, with the same stamp, or none; and the verdicts on its signatures
-- are the same.
pub record IsUnaltered (old new : Keyring) (fpr : Fpr) : Type 0 where
  pub kept : kept_at new fpr ≡ kept_at old fpr
  pub said :
      (x : Kept) → kept_at old fpr ≡ Some x → AllByRecursion (SaysSame old.verdicts new.verdicts) (all_sigs x.cert)

-- Nothing was altered at a fingerprint, or nothing is kept there any more, or the stamp is new.
abbrev pub IsLaterAt : Keyring → Keyring → Fpr → Type 0
IsLaterAt old new fpr = IsUnaltered old new fpr ⊎ (kept_at new fpr ≡ None) ⊎ (old.changes < stamp_at new fpr)

-- That holds at each fingerprint, and the count of changes doesn't fall.
pub record IsLater (old new : Keyring) : Type 0 where
  pub counted : old.changes ≤ new.changes
  pub at : (fpr : Fpr) → IsLaterAt old new fpr
