-- What a certificate holds, counted and weighed.
use Rattle.std.specs.Prelude.{ℕ, ◌+◌, List, [], ◌∷◌, ◌++◌}
use Rattle.std.specs.List.{flat_map}
use Rattle.wot_component.specs.Certificate.{Signature, Component, Certificate}

abbrev pub parts_in : Certificate → List Component
parts_in c = c.user_ids ++ c.attributes ++ c.subkeys

abbrev pub sigs_on : List Component → List Signature
sigs_on parts = flat_map (λ (p : Component). p.sigs) parts

-- all signatures, in the order of the text
abbrev pub all_sigs : Certificate → List Signature
all_sigs c = c.direct ++ sigs_on (parts_in c)

-- what all of a list weigh
abbrev pub sum_of : {A : Type 0} → (A → ℕ) → List A → ℕ
sum_of weight [] = 0
sum_of weight (x ∷ xs) = weight x + sum_of weight xs

-- what a component weighs: itself, and its signatures
abbrev pub part_weight : (Signature → ℕ) → (Component → ℕ) → Component → ℕ
part_weight sig own p = own p + sum_of sig p.sigs

-- what a certificate weighs without its key, by the weight of a signature and of a component by itself
abbrev pub weight_of : (Signature → ℕ) → (Component → ℕ) → Certificate → ℕ
weight_of sig own c =
    sum_of sig c.direct + sum_of (part_weight sig own) c.user_ids
    + sum_of (part_weight sig own) c.attributes + sum_of (part_weight sig own) c.subkeys

-- how many signatures
abbrev pub signatures_of : Certificate → ℕ
signatures_of c = weight_of (λ _. 1) (λ _. 0) c

-- its key, its components and its signatures
abbrev pub items_of : Certificate → ℕ
items_of c = 1 + weight_of (λ _. 1) (λ _. 1) c
