-- Suffixes that begin at a root, and the first of them.
use Rattle.std.specs.Prelude.{◌≡◌, ◌≢◌, ◌⊎◌, ◌<◌, ◌≤◌, List, length}
use Rattle.std.specs.declared.cmp.Ordering.TheVariants.{Less}
use Rattle.wot_edge.specs.declared.path.Step.{Step}
use Rattle.wot_edge.specs.Order.{steps_cmp}
use Rattle.wot_edge.specs.Path.{Question, Use, start, root_left, path_amount}
use Rattle.wot_first_path.specs.declared.node.Goal.{Goal}
use Rattle.wot_first_path.specs.declared.node.Goal.TheVariants.{Widest, Least}
use Rattle.wot_first_path.specs.Quest.{Quest}
use Rattle.wot_first_path.specs.Suffix.{Suffix}

-- a suffix of at most 255 edges that begins at a root with the wanted residual amount
pub record Rooted (quest : Quest) (steps : List Step) : Type 0 where
  pub some : 1 ≤ length steps
  pub few : length steps ≤ 255
  pub suffix : Suffix quest steps
  pub root : quest.least ≤ root_left quest.question quest.used (start quest.question.target steps)

-- of two of equal length, the first is at least as good
abbrev pub IsGood : Question → Use → Goal → List Step → List Step → Type 0
IsGood q used Widest a b = path_amount q used b ≤ path_amount q used a
IsGood q used Least a b = steps_cmp b a ≢ Less

-- the first of them: none has fewer edges, and none of equal length is better
pub record IsFirst (quest : Quest) (steps : List Step) : Type 0 where
  pub rooted : Rooted quest steps
  pub first : (other : List Step) → Rooted quest other
      → (length steps < length other)
      ⊎ ((length steps ≡ length other) × IsGood quest.question quest.used quest.goal steps other)
