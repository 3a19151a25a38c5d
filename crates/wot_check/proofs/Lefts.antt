-- The least of what is left.
use Rattle.std.proofs.Common.{◌≡◌, ℕ, min, List, [], ◌∷◌, arith}
use Rattle.wot_edge.specs.declared.path.Step.{Step}
use Rattle.wot_edge.specs.Path.{Use, least_left}

pub least_more : (used : Use) (a x : ℕ) (steps : List Step)
    → least_left used (min a x) steps ≡ min x (least_left used a steps)
least_more used a x [] = omega arith
least_more used a x (step ∷ rest) = let e = least_more used a x rest in omega (arith, e)
