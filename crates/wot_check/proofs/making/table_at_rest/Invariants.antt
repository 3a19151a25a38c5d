use Rattle.wot_check.specs.Asked.{question_of, used_in}
use Rattle.wot_check.specs.Growth.{IsAfter}
use Rattle.wot_check.proofs.making.table_at_rest.Given as goal

abbrev pub invariant-layers : goal.invariant-layers
invariant-layers g l = IsAfter (question_of (g.R.Roads.network l.roads) l.asked) (used_in l.asked) l.size l.growth
