-- Counting the items of a certificate.
use Rattle.std.proofs.Common.{◌≡◌, List, [], ◌∷◌, length, refl, arith}
use Rattle.wot_component.specs.Counts.{sum_of}

pub ones : {A : Type 0} (xs : List A) → sum_of (λ _. 1) xs ≡ length xs
ones [] = refl
ones (x ∷ xs) = omega (arith, ones xs)
