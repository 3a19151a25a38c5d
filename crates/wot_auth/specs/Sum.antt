-- The sum of an answer.
use Rattle.std.specs.Prelude.{◌≡◌, ℕ, List}
use Rattle.wot_edge.specs.declared.path.Path.{Path}
use Rattle.wot_edge.specs.Answer.{IsAnswer, amount_of}
use Rattle.wot_edge.specs.Path.{Question}

-- There is one answer, and n is its sum.
pub record IsSumOf (q : Question) (wanted n : ℕ) : Type 0 where
  pub paths : List Path
  pub answer : IsAnswer q wanted paths
  pub one : (others : List Path) → IsAnswer q wanted others → others ≡ paths
  pub sum : n ≡ amount_of paths
