use Rattle.std.proofs.Common.{◌≤◌, List}
use Rattle.wot_edge.specs.declared.path.Step.{Step}
use Rattle.wot_first_path.specs.Quest.{quest_of}
use Rattle.wot_first_path.specs.Reached.{look}
use Rattle.wot_first_path.specs.Suffix.{Kept}
use Rattle.wot_first_path.specs.Looked.{Gains, IsNear, Widens}
use Rattle.wot_first_path.specs.Growth.{Advances, AreNoted, BeginsIn, IsReady, Only}
use Rattle.wot_first_path.proofs.EdgesConsidered.{TakenFrom, NotedFrom}
use Rattle.wot_first_path.proofs.extend.extend_by.Given as goal

abbrev pub invariant-edges : goal.invariant-edges
invariant-edges g l =
    let network = g.R.Roads.network l.search.roads.now in
    let quest = quest_of network l.search.quest.now in
    record {
      grows : IsReady quest l.search.size (Only l.at) l.fn.reached → Advances quest l.search.size l.fn.reached l.reached;
      taken : IsReady quest l.search.size (Only l.at) l.fn.reached → (rest : List Step)
          → BeginsIn quest l.search.size (Only l.at) rest → Kept quest (look l.fn.reached.nodes) rest
          → TakenFrom quest l.search.size (look l.reached.nodes) l.edges l.edge-index rest;
      noted : AreNoted (look l.fn.reached.nodes) (g.N.Notes.noted l.fn.notes)
          → AreNoted (look l.reached.nodes) (g.N.Notes.noted l.notes);
      seen : AreNoted (look l.fn.reached.nodes) (g.N.Notes.noted l.fn.notes) → (rest : List Step)
          → BeginsIn quest l.search.size (Only l.at) rest
          → NotedFrom quest (g.N.Notes.noted l.notes) l.edges l.edge-index rest;
      it : g.N.Notes.noted l.notes l.at;
      widens : Widens (g.N.Notes.noted l.fn.notes) (g.N.Notes.noted l.notes);
      falls : g.N.Notes.budget l.notes ≤ g.N.Notes.budget l.fn.notes;
      paid : g.N.Notes.total l.notes ≤ g.N.Notes.total l.fn.notes;
      gains : Gains (IsNear (network l.search.quest.now.asked.uid.now) l.at) (g.N.Notes.noted l.fn.notes) (g.N.Notes.noted l.notes);
    }
