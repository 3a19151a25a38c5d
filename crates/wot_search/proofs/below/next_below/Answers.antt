use Rattle.std.proofs.Common.{sym, ap, subst, ◌∙◌, arith, List}
use Rattle.wot_edge.specs.declared.path.Path.{Path}
use Rattle.wot_edge.specs.Path.{asks}
use Rattle.wot_edge.specs.Sums.{use_in}
use Rattle.wot_reach.specs.Reach.{number_at}
use Rattle.wot_reach.proofs.Within.{reach_holds}
use Rattle.wot_search.specs.Below.{next_of}
use Rattle.wot_search.specs.Offers.{AreOffers, IsNextIfSome, first_path}
use Rattle.wot_search.specs.Widest.{IsWidestOrSpent}
use Rattle.wot_search.proofs.Ahead.{is_next_amount, next_of_paths}
use Rattle.wot_search.proofs.TakenOffer.{next_offers}
use Rattle.wot_search.proofs.below.next_below.Goals as goal

pub returns-in-Some-clause-next : goal.returns-in-Some-clause-next
returns-in-Some-clause-next g c =
    let asked = c.args.asked.now in
    let q = asks (g.R.Roads.network c.args.roads.now asked.uid.now) asked.roots.now asked.target.now in
    let used = use_in c.args.used.now in
    let offers = subst (AreOffers asked.roots.now q used) (sym c.as_slice.ensures.value)
    (c.drop_spent.ensures q c.requires.offers) in
    subst (IsNextIfSome q used) c.in-Some.is (c.in_ok-path.ensures q offers)

pub returns-in-Some-clause-offers : goal.returns-in-Some-clause-offers
returns-in-Some-clause-offers g c =
    let asked = c.args.asked.now in
    c.drop_spent.ensures (asks (g.R.Roads.network c.args.roads.now asked.uid.now) asked.roots.now asked.target.now)
    c.requires.offers

pub returns-in-None-clause-next : goal.returns-in-None-clause-next
returns-in-None-clause-next g c =
    subst (IsWidestOrSpent (g.R.Roads.network c.args.roads.now) c.args.asked.now c.args.used.now) c.in-None.is
    c.in_ok-widest.ensures.widest

pub returns-in-None-clause-offers : goal.returns-in-None-clause-offers
returns-in-None-clause-offers g c =
    let asked = c.args.asked.now in
    c.drop_spent.ensures (asks (g.R.Roads.network c.args.roads.now asked.uid.now) asked.roots.now asked.target.now)
    c.requires.offers

pub returns-then-enough-from-clause-next : goal.returns-then-enough-from-clause-next
returns-then-enough-from-clause-next g c =
    let network = g.R.Roads.network c.args.roads.now in
    let asked = c.args.asked.now in
    let q = asks (network asked.uid.now) asked.roots.now asked.target.now in
    let used = use_in c.args.used.now in
    let reach = number_at asked.reach.now in
    let holds = reach_holds network asked.roots.now reach c.requires.reach.enough asked.uid.now asked.target.now used in
    let wide = subst (IsWidestOrSpent network asked c.args.used.now) c.in-Some-2.is c.in_ok-widest.ensures.widest in
    let e = c.from.ensures in
    let le = c.if-enough-from.true in (
      omega (arith, e, le),
      is_next_amount reach q used holds wide.in_order c.in-Some-2.wide.steps wide.result.first c.in-Some-2.wide.amount
          wide.result.amount,
    )

pub returns-then-enough-from-clause-offers : goal.returns-then-enough-from-clause-offers
returns-then-enough-from-clause-offers g c =
    let asked = c.args.asked.now in
    c.drop_spent.ensures (asks (g.R.Roads.network c.args.roads.now asked.uid.now) asked.roots.now asked.target.now)
    c.requires.offers

pub offers_after-requires-clause-widest : goal.offers_after-requires-clause-widest
offers_after-requires-clause-widest g c =
    subst (IsWidestOrSpent (g.R.Roads.network c.args.roads.now) c.args.asked.now c.args.used.now) c.in-Some-2.is
    c.in_ok-widest.ensures.widest

pub returns-in_ok-next-in-Some-2-clause-next : goal.returns-in_ok-next-in-Some-2-clause-next
returns-in_ok-next-in-Some-2-clause-next g c =
    let asked = c.args.asked.now in
    let q = asks (g.R.Roads.network c.args.roads.now asked.uid.now) asked.roots.now asked.target.now in
    let paths = c.in_ok-offers-in-Some-2.field-0.items in
    let first = c.in_ok-next-in-Some-2.ensures
    ∙ ap (λ (ps : List Path). next_of (first_path ps)) c.as_slice-in-Some-2.ensures.value in
    next_of_paths q (use_in c.args.used.now) c.args.enough paths c.in_ok-next-in-Some-2.next first
    c.in_ok-offers-in-Some-2.ensures.next

pub returns-in_ok-next-in-Some-2-clause-offers : goal.returns-in_ok-next-in-Some-2-clause-offers
returns-in_ok-next-in-Some-2-clause-offers g c =
    let asked = c.args.asked.now in
    let q = asks (g.R.Roads.network c.args.roads.now asked.uid.now) asked.roots.now asked.target.now in
    next_offers asked.roots.now q (use_in c.args.used.now) c.in_ok-offers-in-Some-2.field-0.items
    c.in_ok-offers-in-Some-2.ensures.next
