-- The next path, of two searches.
use Rattle.std.proofs.Common.{◌≡◌, ℕ, ◌≤◌, Bool, true, false, cond, List, [], ◌∷◌, length, Option, Some, None, sym}
use Rattle.std.proofs.Common.{subst, arith}
use Rattle.std.specs.Option.{unwrap_or}
use Rattle.std.specs.BTreeMap.{is_at}
use Rattle.std.specs.Map.{lookup}
use Rattle.wot_types.specs.declared.fpr.Fpr.{Fpr}
use Rattle.wot_types.specs.Fpr.{fpr_cmp}
use Rattle.wot_edge.specs.declared.path.Path.{Path}
use Rattle.wot_edge.specs.Agree.{Agree}
use Rattle.wot_edge.specs.Answer.{IsNextOrSpent}
use Rattle.wot_edge.specs.Record.{Has, entry_at}
use Rattle.wot_edge.specs.Roots.{root_amount, AreAmounts}
use Rattle.wot_edge.specs.Path.{Question, Use, path_amount}
use Rattle.wot_first_path.specs.Looked.{IsLooked}
use Rattle.wot_first_path.specs.Growth.{IsResult}
use Rattle.wot_first_path.specs.Rooted.{Rooted, IsFirst}
use Rattle.wot_first_path.proofs.FirstPathFound.{looked_fewer}
use Rattle.wot_first_path.proofs.Local.{next_path_there, spent_there, disordered_there}
use Rattle.wot_first_path.proofs.Rooted.{widest_quest, least_quest, rooted_wide, first_next, first_le, none_spent}
use Rattle.wot_first_path.proofs.Rooted.{disordered_spent}
use Rattle.wot_reach.proofs.Within.{Holds}

pub amounts_small : (roots : List (Fpr × ℕ)) → AreAmounts roots → (fpr : Fpr) → root_amount roots fpr ≤ 255
amounts_small [] a fpr = omega arith
amounts_small (x ∷ roots) a fpr = by (is_at (fpr_cmp fpr) x.0) (amounts_small roots a.1 fpr)
  where
    by : (b : Bool) → root_amount roots fpr ≤ 255
        → unwrap_or (cond b (Some x.1) (lookup (is_at (fpr_cmp fpr)) roots)) 0 ≤ 255
    by true ih = a.0.1
    by false ih = ih

module _ (reach : Fpr → ℕ) (q : Question) (used : Use) (holds : Holds reach q used)
    (ok : (entry_at q.network q.target).in_order ≡ true) where
  -- the path of both searches
  abbrev IsBoth : ℕ → Option Path → Type 0
  IsBoth n None = ⊥
  IsBoth n (Some path) = IsNextOrSpent q used (Some path) × (length path.steps ≤ n)

  both : (wide : Path) (found : Option Path) → IsResult (widest_quest reach q used) (Some wide)
      → IsResult (least_quest reach q used wide.amount) found → IsBoth (length wide.steps) found
  both wide None f g =
      g wide.steps (subst (λ (n : ℕ). Rooted (least_quest reach q used n) wide.steps) (sym f.amount)
      (rooted_wide reach q used wide.steps f.first.rooted))
  both wide (Some path) f g =
      let h = subst (λ (n : ℕ). IsFirst (least_quest reach q used n) path.steps) f.amount g.first in (
        record {
          steps = first_next reach q used holds wide.steps path.steps ok f.first h;
          root = g.root;
          amount = g.amount;
        },
        first_le (least_quest reach q used (path_amount q used wide.steps)) path.steps wide.steps
            h (rooted_wide reach q used wide.steps f.first.rooted),
      )

  pub both_next : (wide : Path) (found : Option Path) → IsResult (widest_quest reach q used) (Some wide)
      → IsResult (least_quest reach q used wide.amount) found → IsNextOrSpent q used found
  both_next wide None f g = absurd (both wide None f g)
  both_next wide (Some path) f g = (both wide (Some path) f g).0

  pub both_local : ((fpr : Fpr) → reach fpr ≡ 255) → (wide : Path) (found : Option Path) (set : List Fpr)
      → IsResult (widest_quest reach q used) (Some wide) → IsResult (least_quest reach q used wide.amount) found
      → IsLooked (widest_quest reach q used) (length wide.steps) (Has set) → (other : Question) → Agree q other set
      → IsNextOrSpent other used found
  both_local all wide None set f g l other a = absurd (both wide None f g)
  both_local all wide (Some path) set f g l other a =
      let b = both wide (Some path) f g in
      next_path_there reach all q other used (length path.steps) set a
      (looked_fewer (widest_quest reach q used) (length path.steps) (length wide.steps) (Has set) b.1 l) path
      (omega arith) b.0

-- ---- none

pub spent_next : (reach : Fpr → ℕ) (q : Question) (used : Use) → Holds reach q used
    → IsResult (widest_quest reach q used) None → IsNextOrSpent q used None
spent_next reach q used holds f = none_spent reach q used holds f

pub spent_local : (reach : Fpr → ℕ) → ((fpr : Fpr) → reach fpr ≡ 255) → (q : Question) (used : Use) → Holds reach q used
    → (set : List Fpr) → IsResult (widest_quest reach q used) None → IsLooked (widest_quest reach q used) 255 (Has set)
    → (other : Question) → Agree q other set → IsNextOrSpent other used None
spent_local reach all q used holds set f l other a =
    spent_there reach all q other used set a l (none_spent reach q used holds f)

pub unordered_next : (q : Question) (used : Use) → (entry_at q.network q.target).in_order ≡ false
    → IsNextOrSpent q used None
unordered_next q used e = disordered_spent q used e

pub unordered_local : (q : Question) (used : Use) (set : List Fpr) → Has set q.target
    → (entry_at q.network q.target).in_order ≡ false → (other : Question) → Agree q other set
    → IsNextOrSpent other used None
unordered_local q used set h e other a = disordered_there q other used set a h e
