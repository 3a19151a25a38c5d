-- Tables: labels from 1 to 255 by fingerprint, as the list of their entries in order.
use Rattle.std.specs.Prelude.{◌≡◌, ℕ, ◌<◌, ◌≤◌, List, Option, Some, None, if◌then◌else◌}
use Rattle.std.specs.Map.{lookup, keys_of}
use Rattle.std.specs.BTreeMap.{is_at}
use Rattle.std.specs.List.{AllByRecursion}
use Rattle.std.specs.List.Sorted.{IsStrictlySortedBy}
use Rattle.wot_types.specs.declared.fpr.Fpr.{Fpr}
use Rattle.wot_types.specs.Fpr.{fpr_cmp, same_fpr}

abbrev pub Labels : Type 0
Labels = List (Fpr × ℕ)

-- the label of a fingerprint, if it has one
abbrev pub label_at : Labels → Fpr → Option ℕ
label_at table fpr = lookup (is_at (fpr_cmp fpr)) table

-- this is now the label of this fingerprint; all others are unchanged
abbrev pub GivesLabel : Labels → Labels → Fpr → ℕ → Type 0
GivesLabel old new fpr label =
    (other : Fpr) → label_at new other ≡ (if same_fpr fpr other then Some label else label_at old other)

-- there is a label, and it is at most this
abbrev pub IsAtMost : ℕ → Option ℕ → Type 0
IsAtMost most None = ⊥
IsAtMost most (Some label) = label ≤ most

-- each label is from 1 to 255
abbrev pub AreLabels : Labels → Type 0
AreLabels table = AllByRecursion (λ entry. (0 < entry.1) × (entry.1 ≤ 255)) table

-- the invariant of `Table`
pub record IsTable (table : Labels) : Type 0 where
  pub order : IsStrictlySortedBy fpr_cmp (keys_of table)
  pub labels : AreLabels table
