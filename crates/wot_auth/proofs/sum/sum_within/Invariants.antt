use Rattle.std.proofs.Common.{◌≡◌, ◌<◌, ◌-◌, []}
use Rattle.wot_edge.specs.Path.{asks, use_of}
use Rattle.wot_edge.specs.Sums.{use_in}
use Rattle.wot_edge.specs.Answer.{EachNext, amount_of, but_last}
use Rattle.wot_search.specs.Offers.{AreOffers}
use Rattle.wot_auth.proofs.sum.sum_within.Given as goal

abbrev pub invariant-paths : goal.invariant-paths
invariant-paths g l =
    let q = asks (g.R.Roads.network l.roads l.asked.uid.now) l.asked.roots.now l.asked.target.now in
    record {
      each : EachNext q [] l.paths.items;
      short : amount_of (but_last l.paths.items) < l.wanted;
      used : use_in l.used ≡ use_of l.paths.items;
      sum : l.sum ≡ amount_of l.paths.items;
      offers : AreOffers l.asked.roots.now q (use_in l.used) l.offers.items;
    }

abbrev pub decreases-paths : goal.decreases-paths
decreases-paths g l = l.wanted - l.sum
