use Rattle.std.proofs.Common.{inl, inr, ◌+◌, ◌<◌, [], sym, ap, subst, ◌∙◌, arith, List, ℕ}
use Rattle.wot_edge.specs.declared.path.Path.{Path}
use Rattle.wot_edge.specs.Path.{asks, use_of}
use Rattle.wot_edge.specs.Answer.{EachNext, amount_of, but_last}
use Rattle.wot_edge.specs.Sums.{use_in}
use Rattle.wot_search.specs.Offers.{AreOffers}
use Rattle.wot_auth.proofs.OnePathMore.{each_more, short_more, use_none, use_more, pair_fits, root_fits, amount_more}
use Rattle.wot_auth.proofs.OnePathMore.{next_found, more_small, spent_answer, full_answer, later_more, offers_later}
use Rattle.wot_auth.proofs.take.take.Goals as goal

pub paths-init : goal.paths-init
paths-init g c =
    let network = g.R.Roads.network c.args.roads.now c.args.asked.now.uid.now in
    let q = asks network c.args.asked.now.roots.now c.args.asked.now.target.now in
    let none = sym c.new-paths.ensures.items in
    record {
      each = subst (EachNext q []) none tt;
      short = subst (λ (paths : List Path). amount_of (but_last paths) < c.args.wanted) none
          (omega (arith, c.requires.wanted));
      used = use_none c.new-used.result c.new-used.ensures.pairs c.new-used.ensures.roots ∙ ap use_of none;
      sum = ap amount_of none;
      offers = subst (AreOffers c.args.asked.now.roots.now q (use_in c.new-used.result)) (sym c.new-offers.ensures.items) tt;
      grows = λ fpr h. h;
      falls = omega arith;
      paid = omega arith;
      leads = λ fpr h. inl h;
      local = λ all set has other a. (
        subst (EachNext other []) none tt,
        subst (AreOffers c.args.asked.now.roots.now other (use_in c.new-used.result)) (sym c.new-offers.ensures.items) tt,
      );
    }

pub returns-in-None-clause-answer : goal.returns-in-None-clause-answer
returns-in-None-clause-answer g c =
    let q = asks (g.R.Roads.network c.args.roads.now c.args.asked.now.uid.now) c.args.asked.now.roots.now c.args.asked.now.target.now in
    spent_answer q c.args.wanted c.paths.used c.paths.paths.items c.new-paths-in-None.result c.in_ok-next.next
    c.paths.invariant.each c.paths.invariant.short c.paths.invariant.used c.in_ok-next.ensures.next c.in-None.is
    c.new-paths-in-None.ensures.items

pub returns-in-None-clause-local : goal.returns-in-None-clause-local
returns-in-None-clause-local g c all set has other a =
    let q = asks (g.R.Roads.network c.args.roads.now c.args.asked.now.uid.now) c.args.asked.now.roots.now c.args.asked.now.target.now in
    let each = c.paths.invariant.local all set (λ fpr h. has fpr (c.in_ok-next.ensures.grows fpr h)) other a in
    let there = c.in_ok-next.ensures.local all set has other a each.1 in
    spent_answer other c.args.wanted c.paths.used c.paths.paths.items c.new-paths-in-None.result c.in_ok-next.next
    each.0 c.paths.invariant.short c.paths.invariant.used there.0 c.in-None.is c.new-paths-in-None.ensures.items

pub add-requires-clause-pairs_fit : goal.add-requires-clause-pairs_fit
add-requires-clause-pairs_fit g c issuer target =
    let q = asks (g.R.Roads.network c.args.roads.now c.args.asked.now.uid.now) c.args.asked.now.roots.now c.args.asked.now.target.now in
    let next = next_found q c.paths.used c.paths.paths.items c.in_ok-next.next c.in-Some.path c.paths.invariant.used
    c.in_ok-next.ensures.next c.in-Some.is in
    let small = more_small c.paths_fit.ensures.sum q c.paths.paths.items c.in-Some.path
    c.len-count.ensures.roots.amounts c.requires.few c.paths.invariant.each next in
    let fits = pair_fits c.paths.used c.paths.paths.items c.in-Some.path issuer target c.paths.invariant.used in
    omega (arith, fits, small)

pub add-requires-clause-roots_fit : goal.add-requires-clause-roots_fit
add-requires-clause-roots_fit g c fpr =
    let q = asks (g.R.Roads.network c.args.roads.now c.args.asked.now.uid.now) c.args.asked.now.roots.now c.args.asked.now.target.now in
    let next = next_found q c.paths.used c.paths.paths.items c.in_ok-next.next c.in-Some.path c.paths.invariant.used
    c.in_ok-next.ensures.next c.in-Some.is in
    let small = more_small c.paths_fit.ensures.sum q c.paths.paths.items c.in-Some.path
    c.len-count.ensures.roots.amounts c.requires.few c.paths.invariant.each next in
    let fits = root_fits c.paths.used c.paths.paths.items c.in-Some.path fpr c.paths.invariant.used in
    omega (arith, fits, small)

pub overflow_add-sum : goal.overflow_add-sum
overflow_add-sum g c =
    let q = asks (g.R.Roads.network c.args.roads.now c.args.asked.now.uid.now) c.args.asked.now.roots.now c.args.asked.now.target.now in
    let next = next_found q c.paths.used c.paths.paths.items c.in_ok-next.next c.in-Some.path c.paths.invariant.used
    c.in_ok-next.ensures.next c.in-Some.is in
    let small = more_small c.paths_fit.ensures.sum q c.paths.paths.items c.in-Some.path
    c.len-count.ensures.roots.amounts c.requires.few c.paths.invariant.each next in
    let more = amount_more c.paths.paths.items c.in-Some.path in
    let sum = c.paths.invariant.sum in
    omega (arith, more, small, sum)

pub paths-preserved : goal.paths-preserved
paths-preserved g c =
    let network = g.R.Roads.network c.args.roads.now c.args.asked.now.uid.now in
    let q = asks network c.args.asked.now.roots.now c.args.asked.now.target.now in
    let old = c.paths.paths.items in
    let path = c.in-Some.path in
    let more = sym c.in_ok-push-in-Some.ensures.items in
    let next = next_found q c.paths.used old c.in_ok-next.next path c.paths.invariant.used c.in_ok-next.ensures.next
    c.in-Some.is in
    let later = later_more c.paths.used c.add.new.self path c.in_ok-add-in-Some.ensures.pairs
    c.in_ok-add-in-Some.ensures.roots in
    let below : amount_of old < c.args.wanted =
    (let test = c.paths-test.true in let sum = c.paths.invariant.sum in omega (arith, test, sum)) in
    record {
      each = subst (EachNext q []) more (each_more q old path c.paths.invariant.each next);
      short = subst (λ (paths : List Path). amount_of (but_last paths) < c.args.wanted) more
          (short_more c.args.wanted old path below);
      used = use_more c.paths.used c.add.new.self old path c.paths.invariant.used c.in_ok-add-in-Some.ensures.pairs
          c.in_ok-add-in-Some.ensures.roots ∙ ap use_of more;
      sum = ap (λ (n : ℕ). n + path.amount) c.paths.invariant.sum ∙ sym (amount_more old path) ∙ ap amount_of more;
      offers = offers_later c.args.asked.now.roots.now q (use_in c.paths.used) (use_in c.add.new.self)
          c.next_offered.new.offers.items later c.in_ok-next.ensures.offers;
      grows = λ fpr h. c.in_ok-next.ensures.grows fpr (c.paths.invariant.grows fpr h);
      falls = let now = c.in_ok-next.ensures.falls in let before = c.paths.invariant.falls in omega (arith, now, before);
      paid = let now = c.in_ok-next.ensures.paid in let before = c.paths.invariant.paid in omega (arith, now, before);
      leads = λ fpr h. elim (c.in_ok-next.ensures.leads fpr h)
          [ inl k ↦ c.paths.invariant.leads fpr k | inr l ↦ inr l ];
      local = λ all set has other a.
          let each = c.paths.invariant.local all set (λ fpr h. has fpr (c.in_ok-next.ensures.grows fpr h)) other a in
          let there = c.in_ok-next.ensures.local all set has other a each.1 in
          let next = next_found other c.paths.used old c.in_ok-next.next path c.paths.invariant.used there.0
          c.in-Some.is in (
            subst (EachNext other []) more (each_more other old path each.0 next),
            offers_later c.args.asked.now.roots.now other (use_in c.paths.used) (use_in c.add.new.self)
                c.next_offered.new.offers.items later there.1,
          );
    }

pub returns-clause-local : goal.returns-clause-local
returns-clause-local g c all set has other a =
    full_answer other c.args.wanted c.paths.paths.items c.new-paths-2.result c.paths.sum
    (c.paths.invariant.local all set has other a).0 c.paths.invariant.short c.paths.invariant.sum c.paths-test.false
    c.new-paths-2.ensures.items

pub returns-clause-answer : goal.returns-clause-answer
returns-clause-answer g c =
    let q = asks (g.R.Roads.network c.args.roads.now c.args.asked.now.uid.now) c.args.asked.now.roots.now c.args.asked.now.target.now in
    full_answer q c.args.wanted c.paths.paths.items c.new-paths-2.result c.paths.sum c.paths.invariant.each
    c.paths.invariant.short c.paths.invariant.sum c.paths-test.false c.new-paths-2.ensures.items

pub returns-clause-grows : goal.returns-clause-grows
returns-clause-grows g c = c.paths.invariant.grows

pub returns-clause-leads : goal.returns-clause-leads
returns-clause-leads g c = c.paths.invariant.leads

pub returns-in_err-next-clause-grows : goal.returns-in_err-next-clause-grows
returns-in_err-next-clause-grows g c fpr h = c.in_err-next.ensures.grows fpr (c.paths.invariant.grows fpr h)

pub returns-in_err-next-clause-leads : goal.returns-in_err-next-clause-leads
returns-in_err-next-clause-leads g c fpr h =
    elim (c.in_err-next.ensures.leads fpr h) [ inl k ↦ c.paths.invariant.leads fpr k | inr l ↦ inr l ]

pub returns-in-None-clause-grows : goal.returns-in-None-clause-grows
returns-in-None-clause-grows g c fpr h = c.in_ok-next.ensures.grows fpr (c.paths.invariant.grows fpr h)

pub returns-in-None-clause-leads : goal.returns-in-None-clause-leads
returns-in-None-clause-leads g c fpr h =
    elim (c.in_ok-next.ensures.leads fpr h) [ inl k ↦ c.paths.invariant.leads fpr k | inr l ↦ inr l ]

pub returns-in_err-add-in-Some-clause-grows : goal.returns-in_err-add-in-Some-clause-grows
returns-in_err-add-in-Some-clause-grows g c fpr h = c.in_ok-next.ensures.grows fpr (c.paths.invariant.grows fpr h)

pub returns-in_err-add-in-Some-clause-leads : goal.returns-in_err-add-in-Some-clause-leads
returns-in_err-add-in-Some-clause-leads g c fpr h =
    elim (c.in_ok-next.ensures.leads fpr h) [ inl k ↦ c.paths.invariant.leads fpr k | inr l ↦ inr l ]

pub returns-in_err-push-in-Some-clause-grows : goal.returns-in_err-push-in-Some-clause-grows
returns-in_err-push-in-Some-clause-grows g c fpr h = c.in_ok-next.ensures.grows fpr (c.paths.invariant.grows fpr h)

pub returns-in_err-push-in-Some-clause-leads : goal.returns-in_err-push-in-Some-clause-leads
returns-in_err-push-in-Some-clause-leads g c fpr h =
    elim (c.in_ok-next.ensures.leads fpr h) [ inl k ↦ c.paths.invariant.leads fpr k | inr l ↦ inr l ]
