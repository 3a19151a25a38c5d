use Rattle.std.proofs.Common.{inl, ap, sym, subst, ◌∙◌}
use Rattle.wot_edge.specs.Path.{asks}
use Rattle.wot_edge.specs.Sums.{use_in}
use Rattle.wot_search.specs.Offers.{AreOffers, IsNextIfSome, first_path}
use Rattle.wot_search.proofs.TakenOffer.{next_first, next_offers}
use Rattle.wot_search.proofs.offered.next_offered.Goals as goal

pub returns-clause-local : goal.returns-clause-local
returns-clause-local g c all set has other a o =
    let there = c.in_ok-offers.ensures.local all set has other a in
    let first = c.in_ok-found.ensures ∙ ap first_path c.as_slice-2.ensures.value in (
      next_first c.args.asked.now.roots.now other (use_in c.args.used.now) c.in_ok-offers.field-0.items
          c.in_ok-found.found first there,
      next_offers c.args.asked.now.roots.now other (use_in c.args.used.now)
          c.in_ok-offers.field-0.items there,
    )

pub returns-in-Some-clause-next : goal.returns-in-Some-clause-next
returns-in-Some-clause-next g c =
    let q = asks (g.R.Roads.network c.args.roads.now c.args.asked.now.uid.now) c.args.asked.now.roots.now
    c.args.asked.now.target.now in
    let used = use_in c.args.used.now in
    let offers = subst (AreOffers c.args.asked.now.roots.now q used) (sym c.as_slice.ensures.value)
    (c.drop_spent.ensures q c.requires.offers) in
    subst (IsNextIfSome q used) c.in-Some.is (c.in_ok-path.ensures q offers)

pub returns-in-Some-clause-offers : goal.returns-in-Some-clause-offers
returns-in-Some-clause-offers g c =
    let q = asks (g.R.Roads.network c.args.roads.now c.args.asked.now.uid.now) c.args.asked.now.roots.now
    c.args.asked.now.target.now in
    let used = use_in c.args.used.now in
    c.drop_spent.ensures q c.requires.offers

pub returns-in-Some-clause-local : goal.returns-in-Some-clause-local
returns-in-Some-clause-local g c all set has other a o =
    let used = use_in c.args.used.now in
    let left = c.drop_spent.ensures other o in
    let offers = subst (AreOffers c.args.asked.now.roots.now other used) (sym c.as_slice.ensures.value) left in
    (subst (IsNextIfSome other used) c.in-Some.is (c.in_ok-path.ensures other offers), left)

pub returns-in-Some-clause-grows : goal.returns-in-Some-clause-grows
returns-in-Some-clause-grows g c fpr h = h

pub returns-in-Some-clause-leads : goal.returns-in-Some-clause-leads
returns-in-Some-clause-leads g c fpr h = inl h

pub returns-clause-next : goal.returns-clause-next
returns-clause-next g c =
    let q = asks (g.R.Roads.network c.args.roads.now c.args.asked.now.uid.now) c.args.asked.now.roots.now
    c.args.asked.now.target.now in
    let used = use_in c.args.used.now in
    let first = c.in_ok-found.ensures ∙ ap first_path c.as_slice-2.ensures.value in
    next_first c.args.asked.now.roots.now q used c.in_ok-offers.field-0.items c.in_ok-found.found first
    c.in_ok-offers.ensures.next

pub returns-clause-offers : goal.returns-clause-offers
returns-clause-offers g c =
    let q = asks (g.R.Roads.network c.args.roads.now c.args.asked.now.uid.now) c.args.asked.now.roots.now
    c.args.asked.now.target.now in
    let used = use_in c.args.used.now in
    next_offers c.args.asked.now.roots.now q used c.in_ok-offers.field-0.items c.in_ok-offers.ensures.next

pub returns-clause-grows : goal.returns-clause-grows
returns-clause-grows g c = c.in_ok-offers.ensures.grows

pub returns-clause-leads : goal.returns-clause-leads
returns-clause-leads g c = c.in_ok-offers.ensures.leads

pub returns-in_err-offers-clause-grows : goal.returns-in_err-offers-clause-grows
returns-in_err-offers-clause-grows g c = c.in_err-offers.ensures.grows

pub returns-in_err-offers-clause-leads : goal.returns-in_err-offers-clause-leads
returns-in_err-offers-clause-leads g c = c.in_err-offers.ensures.leads

pub returns-in_err-found-clause-grows : goal.returns-in_err-found-clause-grows
returns-in_err-found-clause-grows g c = c.in_ok-offers.ensures.grows

pub returns-in_err-found-clause-leads : goal.returns-in_err-found-clause-leads
returns-in_err-found-clause-leads g c = c.in_ok-offers.ensures.leads
