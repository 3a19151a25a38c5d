use Rattle.wot_reach.specs.Reach.{number_at}
use Rattle.wot_reach.proofs.Enough.{AllowedFrom}
use Rattle.wot_reach.proofs.reach.has_enough.Given as goal

abbrev pub invariant-edges : goal.invariant-edges
invariant-edges g l = AllowedFrom (g.R.Roads.network l.roads) (number_at l.reach) l.number l.edges l.edge-index
