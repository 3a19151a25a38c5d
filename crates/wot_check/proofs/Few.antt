-- An answer has few paths.
use Rattle.std.proofs.Common.{ℕ, ◌*◌, ◌^◌, ◌<◌, ◌≤◌, Bool, true, false, cond, List, [], ◌∷◌, ◌++◌, length, Some, arith}
use Rattle.std.proofs.lemmas.List.Sums.{sum_by-cons}
use Rattle.std.specs.BTreeMap.{is_at}
use Rattle.std.specs.Map.{lookup}
use Rattle.std.specs.Option.{unwrap_or}
use Rattle.wot_types.specs.declared.fpr.Fpr.{Fpr}
use Rattle.wot_types.specs.Fpr.{fpr_cmp, same_fpr}
use Rattle.wot_edge.specs.declared.path.Path.{Path}
use Rattle.wot_edge.specs.Answer.{EachNext, amount_of}
use Rattle.wot_edge.specs.Path.{Question}
use Rattle.wot_edge.specs.Roots.{AreAmounts, IsRoots, root_amount}

root_small : (roots : List (Fpr × ℕ)) (fpr : Fpr) → AreAmounts roots → root_amount roots fpr ≤ 255
root_small [] fpr all = omega arith
root_small (root ∷ roots) fpr all = by (root_small roots fpr all.1) (same_fpr fpr root.0)
  where
    by : root_amount roots fpr ≤ 255 → (b : Bool)
        → unwrap_or (cond b (Some root.1) (lookup (is_at (fpr_cmp fpr)) roots)) 0 ≤ 255
    by ih true = all.0.1
    by ih false = ih

-- each path has an amount
each_counts : (q : Question) (earlier paths : List Path) → EachNext q earlier paths → length paths ≤ amount_of paths
each_counts q earlier [] each = omega arith
each_counts q earlier (path ∷ paths) each =
    let later = each_counts q (earlier ++ path ∷ []) paths each.1 in
    let pos = each.0.steps.0.1 in
    let amount = each.0.amount in
    let sum = sum_by-cons (λ (p : Path). p.amount) path paths in
    omega (arith, later, pos, amount, sum)

pub few_paths : (q : Question) (paths : List Path) → EachNext q [] paths → IsRoots q.roots → length q.roots ≤ 64
    → (((fpr : Fpr) → root_amount q.roots fpr ≤ 255) → amount_of paths ≤ 255 * length q.roots) → length paths < 2 ^ 24
few_paths q paths each roots most sum =
    let all = sum (λ fpr. root_small q.roots fpr roots.amounts) in
    let counts = each_counts q [] paths each in
    omega (arith, all, counts, most)
