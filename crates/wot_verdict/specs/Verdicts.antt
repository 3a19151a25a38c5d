-- Verdicts by number: a finite map, seen as the list of its entries in the order of the numbers. Beside it uses
-- which certificate the signature of each number is.
use Rattle.std.specs.Prelude.{◌≡◌, Bool, cond, List, Option}
use Rattle.std.specs.BTreeMap.{is_at, insert_entry}
use Rattle.std.specs.Map.{lookup, remove_entry, keys_of}
use Rattle.std.specs.List.Sorted.{IsStrictlySortedBy}
use Rattle.wot_types.specs.declared.fpr.Fpr.{Fpr}
use Rattle.wot_types.specs.declared.number.SigNumber.{SigNumber}
use Rattle.wot_types.specs.SigNumber.{number_cmp}
use Rattle.wot_verdict.specs.declared.verdict.Verdict.{Verdict}

abbrev pub Entries : Type 0
Entries = List (SigNumber × Verdict)

-- on which certificate the signature of each number is noted
abbrev pub Holders : Type 0
Holders = List (SigNumber × Fpr)

-- What is kept by signature number, both in the order of the numbers.
pub record ByNumber : Type 0 where
  pub entries : Entries
  pub holders : Holders

-- whether this is the number
abbrev pub is_number : SigNumber → SigNumber → Bool
is_number number = is_at (number_cmp number)

-- the verdict on a number
abbrev pub verdict_at : Entries → SigNumber → Option Verdict
verdict_at verdicts number = lookup (is_number number) verdicts

-- with this verdict on the number
abbrev pub with_verdict : Entries → SigNumber → Verdict → Entries
with_verdict verdicts number verdict = insert_entry number_cmp verdicts number verdict

-- without a verdict on the number
abbrev pub without_verdict : Entries → SigNumber → Entries
without_verdict verdicts number = remove_entry (is_number number) verdicts

-- The new entries have this verdict for one number, or none, and what the old ones have for others.
abbrev pub ChangesAt : SigNumber → Option Verdict → Entries → Entries → Type 0
ChangesAt number w old new = (q : SigNumber) → verdict_at new q ≡ cond (is_number number q) w (verdict_at old q)

-- The numbers ascend, so none occurs twice.
abbrev pub AreSortedByNumber : Entries → Type 0
AreSortedByNumber verdicts = IsStrictlySortedBy number_cmp (keys_of verdicts)

-- the certificate that is noted for a number
abbrev pub holder_at : Holders → SigNumber → Option Fpr
holder_at holders number = lookup (is_number number) holders

-- The new ones have this certificate for one number, or none, and what the old ones have for others.
abbrev pub HoldsAt : SigNumber → Option Fpr → Holders → Holders → Type 0
HoldsAt number w old new = (q : SigNumber) → holder_at new q ≡ cond (is_number number q) w (holder_at old q)
