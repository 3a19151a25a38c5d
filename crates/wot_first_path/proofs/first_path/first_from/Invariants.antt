use Rattle.std.proofs.Common.{◌≤◌, suc}
use Rattle.wot_edge.specs.Leads.{Leads}
use Rattle.wot_first_path.specs.Looked.{Gains, Widens}
use Rattle.wot_first_path.specs.Quest.{quest_of}
use Rattle.wot_first_path.specs.Reached.{look}
use Rattle.wot_first_path.specs.Growth.{IsAfter, IsUnrooted}
use Rattle.wot_first_path.proofs.first_path.first_from.Given as goal

abbrev pub invariant-layers : goal.invariant-layers
invariant-layers g l =
    let network = g.R.Roads.network l.roads in
    let quest = quest_of network l.quest in
    record {
      after : IsAfter quest l.size l.reached (g.N.Notes.noted l.notes);
      unrooted : IsUnrooted quest (look l.reached.nodes) (suc l.size);
      grows : Widens (g.N.Notes.noted l.fn.notes) (g.N.Notes.noted l.notes);
      falls : g.N.Notes.budget l.notes ≤ g.N.Notes.budget l.fn.notes;
      paid : g.N.Notes.total l.notes ≤ g.N.Notes.total l.fn.notes;
      leads : Gains (Leads (network l.quest.asked.uid.now) l.quest.asked.target.now) (g.N.Notes.noted l.fn.notes)
          (g.N.Notes.noted l.notes);
    }
