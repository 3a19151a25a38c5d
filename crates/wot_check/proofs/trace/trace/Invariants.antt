use Rattle.std.proofs.Common.{◌≤◌, length}
use Rattle.wot_check.specs.Asked.{question_of, used_in}
use Rattle.wot_check.proofs.ClaimedSteps.{Traced}
use Rattle.wot_check.proofs.trace.trace.Given as goal

abbrev pub invariant-rest : goal.invariant-rest
invariant-rest g l =
    let q = question_of (g.R.Roads.network l.roads) l.asked in
    record {
      few : length l.rest ≤ 255;
      traced : Traced q (used_in l.asked) l.items l.steps.items l.rest;
    }

abbrev pub decreases-rest : goal.decreases-rest
decreases-rest g l = length l.rest
