use Rattle.std.proofs.Common.{◌≡◌, List, [], ◌∷◌, length, arith}
use Rattle.wot_types.specs.declared.fpr.Fpr.{Fpr}
use Rattle.wot_answers.specs.declared.looked.Looked.{Looked}
use Rattle.wot_cache.specs.Basis.{AllIn}
use Rattle.wot_cache.proofs.basis.add_all.Goals as goal

-- an empty list has all its members in the basis
none_out : (fprs : List Fpr) (looked : List Looked) → length looked ≡ 0 → AllIn fprs looked
none_out fprs [] none = tt
none_out fprs (l ∷ ls) none = absurd (omega (arith, none))

pub returns-clause-all : goal.returns-clause-all
returns-clause-all c = λ network. c.rest.invariant.all c.rest.set.keys (λ fpr h. h)
    (none_out c.rest.set.keys c.rest.rest.now c.in_default.ensures.cases)
