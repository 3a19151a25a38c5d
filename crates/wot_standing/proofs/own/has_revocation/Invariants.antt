use Rattle.std.proofs.Common.{◌≡◌, ◌++◌, List, length}
use Rattle.std.specs.List.{list_any}
use Rattle.wot_component.specs.Certificate.{Signature}
use Rattle.wot_cert.specs.Revoked.{revokes_by}
use Rattle.wot_standing.proofs.own.has_revocation.Given as goal

abbrev pub invariant-back : goal.invariant-back
invariant-back l =
    (seen : List Signature) × (l.sigs ≡ l.rest ++ seen)
    × (l.found ≡ list_any (revokes_by l.verdicts.entries l.fpr l.t) seen)

abbrev pub decreases-back : goal.decreases-back
decreases-back l = length l.rest
