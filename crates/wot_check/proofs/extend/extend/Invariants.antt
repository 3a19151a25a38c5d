use Rattle.std.proofs.Common.{suc, length}
use Rattle.wot_check.specs.Asked.{question_of, used_in}
use Rattle.wot_check.specs.Growth.{Leads, IsLayered}
use Rattle.wot_check.proofs.Rows.{AreInto}
use Rattle.wot_check.proofs.LabelsGiven.{GrewInto}
use Rattle.wot_check.proofs.extend.extend.Given as goal

abbrev pub invariant-rest : goal.invariant-rest
invariant-rest g l =
    let network = g.R.Roads.network l.roads in
    let q = question_of network l.asked in
    record {
      into : AreInto network l.at l.rest;
      grew : Leads q (used_in l.asked) l.fn.growth.table l.size l.at
          → IsLayered q (used_in l.asked) (suc l.size) l.fn.growth
          → GrewInto q (used_in l.asked) l.size l.at l.fn.growth l.growth l.rest;
    }

abbrev pub decreases-rest : goal.decreases-rest
decreases-rest g l = length l.rest
