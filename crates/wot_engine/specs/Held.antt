-- Replies that are buffered until more input would be read.
use Rattle.std.specs.Prelude.{◌≡◌, ℕ, List, ◌++◌, Option, Some, None}

-- a prefix of the buffer was written, and the rest is still buffered
pub record MovesOf (before held : List ℕ) (after : Option (List ℕ)) (rest : List ℕ) : Type 0 where
  pub more : List ℕ
  pub written_is : after ≡ Some (before ++ more)
  pub parts : held ≡ more ++ rest

-- a prefix of the buffer was written, if what was written to the sink is known
abbrev pub Moves : Option (List ℕ) → List ℕ → Option (List ℕ) → List ℕ → Type 0
Moves None held after rest = Unit {0}
Moves (Some before) held after rest = MovesOf before held after rest
