use Rattle.std.proofs.Common.{◌≡◌, length}
use Rattle.wot_cert.specs.Drafting.{unite_bodies, bodies_in}
use Rattle.wot_cert.proofs.draft.pour.Given as goal

abbrev pub invariant-loop-body : goal.invariant-loop-body
invariant-loop-body l =
    unite_bodies (bodies_in l.bodies) (bodies_in l.from) ≡ unite_bodies (bodies_in l.fn.bodies) (bodies_in l.fn.from)

abbrev pub decreases-loop-body : goal.decreases-loop-body
decreases-loop-body l = length l.from.keys
