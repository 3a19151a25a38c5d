use Rattle.std.proofs.Common.{length}
use Rattle.wot_edge.specs.Path.{Question}
use Rattle.wot_edge.specs.Sums.{use_in}
use Rattle.wot_search.specs.Offers.{AreOffers}
use Rattle.wot_search.proofs.offered.drop_spent.Given as goal

abbrev pub invariant-spent : goal.invariant-spent
invariant-spent l =
    (q : Question) → AreOffers l.roots q (use_in l.used) l.fn.offers.items
    → AreOffers l.roots q (use_in l.used) l.offers.items

abbrev pub decreases-spent : goal.decreases-spent
decreases-spent l = length l.offers.items
