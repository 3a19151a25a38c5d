use Rattle.std.proofs.Common.{◌≡◌, ℕ, List, drop, None}
use Rattle.wot_edge.specs.Record.{Record}
use Rattle.wot_first_path.specs.Quest.{quest_of}
use Rattle.wot_first_path.specs.Choice.{chosen}
use Rattle.wot_first_path.specs.Reached.{look}
use Rattle.wot_first_path.proofs.choose.choose.Given as goal

abbrev pub invariant-layer : goal.invariant-layer
invariant-layer l = (network : List ℕ → Record) →
    chosen (quest_of network l.quest) (look l.reached.nodes) l.best (drop l.fpr-index l.reached.layer.items)
    ≡ chosen (quest_of network l.quest) (look l.reached.nodes) None l.reached.layer.items
