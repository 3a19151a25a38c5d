use Rattle.wot_reach.specs.Making.{IsMaking}
use Rattle.wot_reach.proofs.making.Making.advanced.Given as goal

abbrev pub invariant-steps : goal.invariant-steps
invariant-steps g l = IsMaking (g.R.Roads.network l.roads) l.roots l.making
