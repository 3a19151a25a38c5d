use Rattle.std.proofs.Common.{◌≡◌, ◌++◌, List, length}
use Rattle.wot_component.specs.Certificate.{Signature}
use Rattle.wot_standing.specs.Latest.{revoked_at}
use Rattle.wot_standing.proofs.latest.latest_revocation.Given as goal

abbrev pub invariant-back : goal.invariant-back
invariant-back l =
    (seen : List Signature) × (l.sigs ≡ l.rest ++ seen)
    × (l.best ≡ revoked_at l.verdicts.entries l.fpr l.t seen)

abbrev pub decreases-back : goal.decreases-back
decreases-back l = length l.rest
