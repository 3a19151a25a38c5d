use Rattle.std.proofs.Common.{◌≡◌, ◌++◌, List, length}
use Rattle.wot_component.specs.Certificate.{Signature}
use Rattle.wot_standing.specs.Standing.{soft_moment}
use Rattle.wot_standing.proofs.revoked.soft_moment.Given as goal

abbrev pub invariant-back : goal.invariant-back
invariant-back l =
    (seen : List Signature) × (l.direct ≡ l.rest ++ seen) × (l.first ≡ soft_moment l.verdicts.entries l.fpr l.t seen)

abbrev pub decreases-back : goal.decreases-back
decreases-back l = length l.rest
