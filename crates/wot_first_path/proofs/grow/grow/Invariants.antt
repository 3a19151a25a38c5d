use Rattle.std.proofs.Common.{◌≤◌}
use Rattle.wot_edge.specs.Record.{Has}
use Rattle.wot_first_path.specs.Quest.{quest_of}
use Rattle.wot_first_path.specs.Reached.{look}
use Rattle.wot_first_path.specs.Looked.{Gains, IsNearOne, Widens}
use Rattle.wot_first_path.specs.Growth.{Advances, AreNoted, IsReady}
use Rattle.wot_first_path.proofs.OneLayer.{LayerFrom, SeenFrom}
use Rattle.wot_first_path.proofs.grow.grow.Given as goal

abbrev pub invariant-layer : goal.invariant-layer
invariant-layer g l =
    let network = g.R.Roads.network l.search.roads.now in
    let quest = quest_of network l.search.quest.now in
    record {
      grows : IsReady quest l.search.size (Has l.layer) l.fn.reached → Advances quest l.search.size l.fn.reached l.reached;
      taken : IsReady quest l.search.size (Has l.layer) l.fn.reached
          → LayerFrom quest l.search.size (look l.reached.nodes) l.layer l.at-index;
      noted : AreNoted (look l.fn.reached.nodes) (g.N.Notes.noted l.fn.notes)
          → AreNoted (look l.reached.nodes) (g.N.Notes.noted l.notes);
      seen : AreNoted (look l.fn.reached.nodes) (g.N.Notes.noted l.fn.notes)
          → SeenFrom quest l.search.size (g.N.Notes.noted l.notes) l.layer l.at-index;
      widens : Widens (g.N.Notes.noted l.fn.notes) (g.N.Notes.noted l.notes);
      falls : g.N.Notes.budget l.notes ≤ g.N.Notes.budget l.fn.notes;
      paid : g.N.Notes.total l.notes ≤ g.N.Notes.total l.fn.notes;
      gains : Gains (IsNearOne (network l.search.quest.now.asked.uid.now) l.layer) (g.N.Notes.noted l.fn.notes) (g.N.Notes.noted l.notes);
    }
