use Rattle.std.proofs.Common.{◌≡◌, ◌++◌, List, length}
use Rattle.std.specs.List.{list_any}
use Rattle.wot_component.specs.Certificate.{Signature}
use Rattle.wot_standing.specs.Standing.{is_hard_revocation}
use Rattle.wot_standing.proofs.revoked.has_hard.Given as goal

abbrev pub invariant-back : goal.invariant-back
invariant-back l =
    (seen : List Signature) × (l.direct ≡ l.rest ++ seen)
    × (l.found ≡ list_any (is_hard_revocation l.verdicts.entries l.fpr) seen)

abbrev pub decreases-back : goal.decreases-back
decreases-back l = length l.rest
