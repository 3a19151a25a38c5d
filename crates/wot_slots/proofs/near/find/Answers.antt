use Rattle.std.proofs.Common.{◌≤◌, ◌<◌, ◌+◌, ℕ, sym, subst, ap, ◌∙◌, is_some, arith}
use Rattle.std.proofs.lemmas.Bool.Decides.{nat_tests}
use Rattle.wot_slots.specs.Near.{HasNoneIn, place_in}
use Rattle.wot_slots.proofs.Rows.{near_nothing, none_more, none_near, none_yet, not_there}
use Rattle.wot_slots.proofs.near.find.Goals as goal

pub returns-then-count-eq0 : goal.returns-then-count-eq0
returns-then-count-eq0 g c = record {
  first = tt;
  value = tt;
  none = near_nothing c.args.row.now.items c.args.number.now
      (grind (arith, nat_tests, c.len-count.ensures, c.if-count-eq0.true));
}

pub near-init : goal.near-init
near-init g c = record {
  from = omega arith;
  none = none_yet c.args.number.now c.place_of-place.result c.args.row.now.items;
}

pub near-preserved : goal.near-preserved
near-preserved g c = record {
  from = omega (arith, c.near.invariant.from);
  none = none_more c.args.number.now c.place_of-place.result c.near.at c.args.row.now.items c.near.invariant.none
      (not_there c.args.row.now.items c.near.at c.args.number.now
      (ap is_some (sym c.held_at.ensures.held ∙ c.in_default.is)));
}

pub returns-in-Some : goal.returns-in-Some
returns-in-Some g c =
    let there = c.place_of-place.ensures.place ∙ ap (λ k. place_in k c.args.number.now) c.len-count.ensures in
    let held = sym c.held_at.ensures.held ∙ c.in-Some.is in
    record {
      first = record {
        within = omega (arith, c.near-test.true, c.end_of-end.ensures.within, c.len-count.ensures);
        from = subst (λ p. p ≤ c.near.at) there c.near.invariant.from;
        near = subst (λ p. c.near.at < p + 8) there
            (omega (arith, c.near-test.true, c.end_of-end.ensures.near));
        held = ap is_some held;
        none = subst (λ (p : ℕ). HasNoneIn c.args.number.now p c.near.at c.args.row.now.items)
            there c.near.invariant.none;
      };
      value = held;
      none = tt;
    }

pub returns : goal.returns
returns g c = record {
  first = tt;
  value = tt;
  none = none_near c.args.row.now.items c.args.number.now c.place_of-place.result c.end_of-end.result
      c.len-count.result c.len-count.ensures c.place_of-place.ensures.place c.end_of-end.ensures.whole
      (λ i lo hi. c.near.invariant.none i lo (omega (arith, hi, c.near-test.false)));
}
