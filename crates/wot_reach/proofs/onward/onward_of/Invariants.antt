use Rattle.wot_reach.specs.Reach.{number_of}
use Rattle.wot_reach.proofs.EdgesThatLead.{LeadTo}
use Rattle.wot_reach.proofs.onward.onward_of.Given as goal

abbrev pub invariant-places : goal.invariant-places
invariant-places g l = LeadTo (g.R.Roads.network l.roads) (number_of l.numbers.entries) l.fpr l.edges l.onward l.place
