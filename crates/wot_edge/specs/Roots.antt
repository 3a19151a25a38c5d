-- The amounts of the roots: a finite map without zeros, as the list of its entries in order.
use Rattle.std.specs.Prelude.{ℕ, ◌<◌, ◌≤◌, List}
use Rattle.std.specs.Option.{unwrap_or}
use Rattle.std.specs.Map.{lookup, keys_of}
use Rattle.std.specs.BTreeMap.{is_at}
use Rattle.std.specs.List.{AllByRecursion}
use Rattle.std.specs.List.Sorted.{IsStrictlySortedBy}
use Rattle.wot_types.specs.declared.fpr.Fpr.{Fpr}
use Rattle.wot_types.specs.Fpr.{fpr_cmp}

-- a root's amount, or 0 if the key isn't a root
abbrev pub root_amount : List (Fpr × ℕ) → Fpr → ℕ
root_amount roots fpr = unwrap_or (lookup (is_at (fpr_cmp fpr)) roots) 0

-- none has more
abbrev pub NoneOver : ℕ → List (Fpr × ℕ) → Type 0
NoneOver most roots = (fpr : Fpr) → root_amount roots fpr ≤ most

-- each amount is from 1 to 255
abbrev pub AreAmounts : List (Fpr × ℕ) → Type 0
AreAmounts roots = AllByRecursion (λ root. (0 < root.1) × (root.1 ≤ 255)) roots

-- the invariant of `Roots`
pub record IsRoots (roots : List (Fpr × ℕ)) : Type 0 where
  pub order : IsStrictlySortedBy fpr_cmp (keys_of roots)
  pub amounts : AreAmounts roots
