-- What a run takes from its source, whatever is known of its sink and of its certificate directory.
use Rattle.std.specs.Prelude.{◌≡◌, ◌≤◌, ◌<◌, ◌^◌, ℕ, List, ◌++◌, length, Option, Some, None}
use Rattle.wot_engine.specs.Ends.{IsEither}

-- these octets were taken, and the rest is left
pub record IsTaken (input octets : List ℕ) (left : Option (List ℕ)) : Type 0 where
  pub rest : List ℕ
  pub input_is : input ≡ octets ++ rest
  pub left_is : left ≡ Some rest

-- exactly 2 ^ 30 octets were taken
pub record IsMost (input : List ℕ) (left : Option (List ℕ)) : Type 0 where
  pub octets : List ℕ
  pub taken : IsTaken input octets left
  pub size : length octets ≡ 2 ^ 30

-- at most 2 ^ 30 octets were taken
pub record IsWithinMost (input : List ℕ) (left : Option (List ℕ)) : Type 0 where
  pub octets : List ℕ
  pub taken : IsTaken input octets left
  pub few : length octets ≤ 2 ^ 30

-- ---- if the octets of the source are known

-- exactly 2 ^ 30 were taken
abbrev pub TakesMost : Option (List ℕ) → Option (List ℕ) → Type 0
TakesMost None left = Unit {0}
TakesMost (Some input) left = IsMost input left

-- at most 2 ^ 30 were taken
abbrev pub TakesAtMost : Option (List ℕ) → Option (List ℕ) → Type 0
TakesAtMost None left = Unit {0}
TakesAtMost (Some input) left = IsWithinMost input left

-- there were at least 2 ^ 30
abbrev pub HasMost : Option (List ℕ) → Type 0
HasMost None = Unit {0}
HasMost (Some input) = 2 ^ 30 ≤ length input

-- If there were fewer than 2 ^ 30, the exit status says that the input was read to its end, or that memory ran out.
abbrev pub ReadsFew : Option (List ℕ) → ℕ → Type 0
ReadsFew None status = Unit {0}
ReadsFew (Some input) status = length input < 2 ^ 30 → IsEither 0 5 status
