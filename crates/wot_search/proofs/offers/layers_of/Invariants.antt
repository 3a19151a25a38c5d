use Rattle.wot_first_path.specs.Growth.{IsAfter}
use Rattle.wot_first_path.specs.Quest.{quest_of}
use Rattle.wot_search.proofs.offers.layers_of.Given as goal

abbrev pub invariant-layers : goal.invariant-layers
invariant-layers g l = IsAfter (quest_of (g.R.Roads.network l.roads) l.quest) l.size l.reached (λ fpr. Unit {0})
