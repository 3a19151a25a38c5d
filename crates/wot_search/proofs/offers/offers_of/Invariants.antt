use Rattle.std.proofs.Common.{◌++◌, List, ℕ}
use Rattle.wot_edge.specs.declared.path.Path.{Path}
use Rattle.wot_edge.specs.Record.{Record}
use Rattle.wot_search.specs.Offers.{AreOfferedBy}
use Rattle.wot_first_path.specs.Quest.{quest_of}
use Rattle.wot_first_path.specs.Reached.{look}
use Rattle.wot_search.proofs.offers.offers_of.Given as goal

abbrev pub invariant-roots : goal.invariant-roots
invariant-roots l =
    (goal.iterator-roots).can_next l.fpr-iterator
    × (goal.iterator-roots).is_finite l.fpr-iterator
    × ((network : List ℕ → Record) (others : List Path)
    → AreOfferedBy (quest_of network l.quest) (look l.nodes) l.size l.fpr-iterator others
    → AreOfferedBy (quest_of network l.quest) (look l.nodes) l.size l.quest.asked.roots.now (l.paths.items ++ others))
