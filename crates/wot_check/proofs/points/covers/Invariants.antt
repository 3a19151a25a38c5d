use Rattle.std.proofs.Common.{length}
use Rattle.wot_check.specs.Asked.{question_of, used_in}
use Rattle.wot_check.proofs.ThreePoints.{CoveredSoFar}
use Rattle.wot_check.proofs.Rows.{AreInto}
use Rattle.wot_check.proofs.points.covers.Given as goal

abbrev pub invariant-rest : goal.invariant-rest
invariant-rest g l =
    let network = g.R.Roads.network l.roads in
    record {
      into : AreInto network l.at l.rest;
      covered : CoveredSoFar (question_of network l.asked) (used_in l.asked) l.size l.table l.at l.rest;
    }

abbrev pub decreases-rest : goal.decreases-rest
decreases-rest g l = length l.rest
