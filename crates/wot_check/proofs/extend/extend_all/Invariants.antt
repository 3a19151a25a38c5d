use Rattle.std.proofs.Common.{suc, length}
use Rattle.wot_check.specs.Asked.{question_of, used_in}
use Rattle.wot_check.specs.Growth.{LeadsFromLayer, IsLayered}
use Rattle.wot_check.proofs.Rows.{Within}
use Rattle.wot_check.proofs.LabelsGiven.{GrewBy}
use Rattle.wot_check.proofs.extend.extend_all.Given as goal

abbrev pub invariant-rest : goal.invariant-rest
invariant-rest g l =
    let q = question_of (g.R.Roads.network l.roads) l.asked in
    record {
      within : Within l.rest l.layer;
      grew : LeadsFromLayer q (used_in l.asked) l.size l.layer l.fn.growth.table
          → IsLayered q (used_in l.asked) (suc l.size) l.fn.growth
          → GrewBy q (used_in l.asked) l.size l.layer l.fn.growth l.growth l.rest;
    }

abbrev pub decreases-rest : goal.decreases-rest
decreases-rest g l = length l.rest
