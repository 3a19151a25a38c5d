-- Slices of octets.
use Rattle.std.specs.Prelude.{◌≡◌, ℕ, List, ◌++◌}
use Rattle.std.specs.List.{AllByRecursion}
use Rattle.wot_subpacket.specs.Subpacket.{Subpacket}

-- The part is somewhere in the whole.
pub record IsSliceOf (part whole : List ℕ) : Type 0 where
  pub prefix : List ℕ
  pub back : List ℕ
  pub stands : whole ≡ prefix ++ (part ++ back)

-- The body of each subpacket is a slice of the octets.
abbrev pub HaveSlicesOf : List ℕ → List Subpacket → Type 0
HaveSlicesOf octets subpackets = AllByRecursion (λ (s : Subpacket). IsSliceOf s.body octets) subpackets
