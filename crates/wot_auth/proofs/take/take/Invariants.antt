use Rattle.std.proofs.Common.{◌≤◌, ◌≡◌, ◌<◌, ◌-◌, [], List}
use Rattle.wot_types.specs.declared.fpr.Fpr.{Fpr}
use Rattle.wot_edge.specs.Record.{Has}
use Rattle.wot_edge.specs.Path.{Question, asks, use_of}
use Rattle.wot_edge.specs.Sums.{use_in}
use Rattle.wot_edge.specs.Answer.{EachNext, amount_of, but_last}
use Rattle.wot_edge.specs.Agree.{Agree}
use Rattle.wot_edge.specs.Leads.{Leads}
use Rattle.wot_first_path.specs.Looked.{Gains, Widens}
use Rattle.wot_search.specs.Offers.{AreOffers}
use Rattle.wot_reach.specs.Reach.{number_at}
use Rattle.wot_auth.proofs.take.take.Given as goal

abbrev pub invariant-paths : goal.invariant-paths
invariant-paths g l =
    let network = g.R.Roads.network l.roads l.asked.uid.now in
    let q = asks network l.asked.roots.now l.asked.target.now in
    record {
      each : EachNext q [] l.paths.items;
      short : amount_of (but_last l.paths.items) < l.wanted;
      used : use_in l.used ≡ use_of l.paths.items;
      sum : l.sum ≡ amount_of l.paths.items;
      offers : AreOffers l.asked.roots.now q (use_in l.used) l.offers.items;
      grows : Widens (g.N.Notes.noted l.fn.notes) (g.N.Notes.noted l.notes);
      falls : g.N.Notes.budget l.notes ≤ g.N.Notes.budget l.fn.notes;
      paid : g.N.Notes.total l.notes ≤ g.N.Notes.total l.fn.notes;
      leads : Gains (Leads network l.asked.target.now) (g.N.Notes.noted l.fn.notes) (g.N.Notes.noted l.notes);
      local : ((fpr : Fpr) → number_at l.asked.reach.now fpr ≡ 255) → (set : List Fpr)
          → Widens (g.N.Notes.noted l.notes) (Has set)
          → (other : Question) → Agree q other set
          → EachNext other [] l.paths.items × AreOffers l.asked.roots.now other (use_in l.used) l.offers.items;
    }

abbrev pub decreases-paths : goal.decreases-paths
decreases-paths g l = l.wanted - l.sum
