-- Upper bounds of what is used.
use Rattle.std.specs.Prelude.{ℕ, ◌≤◌}
use Rattle.wot_types.specs.declared.fpr.Fpr.{Fpr}
use Rattle.wot_edge.specs.Sums.{Sums, pair_sum, root_sum}

-- no pair and no root is used for more than this
pub record AreBelow (most : ℕ) (sums : Sums) : Type 0 where
  pub pairs : (issuer target : Fpr) → pair_sum sums issuer target ≤ most
  pub roots : (fpr : Fpr) → root_sum sums fpr ≤ most
