-- How many octets packets take, and what a merge adds.
use Rattle.std.specs.Prelude.{◌≡◌, ℕ, ◌+◌, ◌<◌, List, length}
use Rattle.wot_packet.specs.Writing.{written}
use Rattle.wot_component.specs.declared.adds.Adds.{Adds}
use Rattle.wot_component.specs.Certificate.{Signature, Component}
use Rattle.wot_component.specs.Counts.{sum_of, part_weight}

abbrev pub sig_size : Signature → ℕ
sig_size s = length (written 2 s.body)

-- a component by itself; every type of packet has one octet
abbrev pub own_size : Component → ℕ
own_size p = length (written 13 p.body)

abbrev pub part_size : Component → ℕ
part_size p = part_weight sig_size own_size p

abbrev pub part_items : Component → ℕ
part_items p = part_weight (λ _. 1) (λ _. 1) p

abbrev pub part_signatures : Component → ℕ
part_signatures p = part_weight (λ _. 1) (λ _. 0) p

-- What the second list has that the first one doesn't, by three weights.
pub record Brings {A : Type 0} (wi ws wo : A → ℕ) (adds : Adds) (first union : List A) : Type 0 where
  pub items : adds.items + sum_of wi first ≡ sum_of wi union
  pub signatures : adds.signatures + sum_of ws first ≡ sum_of ws union
  pub octets : adds.octets + sum_of wo first ≡ sum_of wo union

abbrev pub BringsSigs : Adds → List Signature → List Signature → Type 0
BringsSigs = Brings (λ _. 1) (λ _. 1) sig_size

abbrev pub BringsParts : Adds → List Component → List Component → Type 0
BringsParts = Brings part_items part_signatures part_size

-- what one signature, or one component with its signatures, weighs
pub record Weighs {A : Type 0} (wi ws wo : A → ℕ) (adds : Adds) (x : A) : Type 0 where
  pub items : adds.items ≡ wi x
  pub signatures : adds.signatures ≡ ws x
  pub octets : adds.octets ≡ wo x

-- the sum of both
pub record IsSum (sum a b : Adds) : Type 0 where
  pub items : sum.items ≡ a.items + b.items
  pub signatures : sum.signatures ≡ a.signatures + b.signatures
  pub octets : sum.octets ≡ a.octets + b.octets

-- All three together are few.
pub record IsFew (limit : ℕ) (a b : Adds) : Type 0 where
  pub items : a.items + b.items < limit
  pub signatures : a.signatures + b.signatures < limit
  pub octets : a.octets + b.octets < limit
