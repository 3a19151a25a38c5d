use Rattle.std.proofs.Common.{ap, sym, subst, ◌∙◌}
use Rattle.wot_edge.specs.Sums.{use_in}
use Rattle.wot_search.specs.Offers.{AreOffers, is_first_spent}
use Rattle.wot_search.proofs.TakenOffer.{dropped}
use Rattle.wot_search.proofs.offered.drop_spent.Goals as goal

pub spent-preserved : goal.spent-preserved
spent-preserved c q o =
    let spent = ap (is_first_spent c.args.roots.now (use_in c.args.used.now)) (sym c.as_slice.ensures.value)
    ∙ sym c.spent-test.ensures in
    subst (AreOffers c.args.roots.now q (use_in c.args.used.now)) (sym c.remove-spent.ensures.items)
    (dropped c.args.roots.now q (use_in c.args.used.now) c.spent.offers.items spent (c.spent.invariant q o))
