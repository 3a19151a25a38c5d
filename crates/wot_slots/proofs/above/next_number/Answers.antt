use Rattle.std.proofs.Common.{arith}
use Rattle.std.proofs.lemmas.Bool.Decides.{nat_tests}
use Rattle.wot_slots.proofs.Nexts.{candidate_on, ends_at, first_candidate, next_far_alone, next_found, none_at_first}
use Rattle.wot_slots.proofs.Nexts.{none_on}
use Rattle.wot_slots.proofs.Rows.{near_nothing}
use Rattle.wot_slots.proofs.above.next_number.Goals as goal

pub returns-then-count-eq0 : goal.returns-then-count-eq0
returns-then-count-eq0 g c = record {
  next =
      next_far_alone c.args.row.now.items c.args.rest.now.entries c.args.last c.next_far-far.result
      c.next_far-far.ensures.next
      (λ q. near_nothing c.args.row.now.items q (grind (arith, nat_tests, c.len-count.ensures, c.if-count-eq0.true)));
}

pub slots-init : goal.slots-init
slots-init g c = record {
  within = omega (arith, c.end_for-end.ensures.within, c.len-count.ensures);
  candidate = first_candidate c.args.row.now.items c.args.rest.now.entries c.args.last c.next_far-far.result
      c.next_far-far.ensures.next c.next_far-far.ensures.whole;
  ends = ends_at c.args.row.now.items c.next_far-far.result c.end_for-end.result c.len-count.result c.len-count.ensures
      c.end_for-end.ensures.end;
  lower = λ q below. below;
  none = none_at_first c.args.row.now.items c.args.last c.next_far-far.result c.start_of-at.result
      c.len-count.result c.len-count.ensures c.start_of-at.ensures.start;
}

pub slots-preserved : goal.slots-preserved
slots-preserved g c = record {
  within = omega (arith, c.end_for-end-in-slots.ensures.within, c.len-count.ensures);
  candidate = candidate_on c.args.row.now.items c.args.rest.now.entries c.args.last c.next_far-far.result
      c.next_far-far.ensures.next c.slots.at c.slots.best c.better-best.result c.slots.invariant.candidate
      c.better-best.ensures.better;
  ends = ends_at c.args.row.now.items c.better-best.result c.end_for-end-in-slots.result c.len-count.result c.len-count.ensures
      c.end_for-end-in-slots.ensures.end;
  lower = λ q below. c.slots.invariant.lower q (c.better-best.ensures.better.lower q below);
  none = none_on c.args.row.now.items c.args.last c.slots.best c.better-best.result c.slots.at c.slots.invariant.none
      c.better-best.ensures.better;
}

pub returns : goal.returns
returns g c = record {
  next =
      next_found c.args.row.now.items c.args.rest.now.entries c.args.last c.next_far-far.result
      c.next_far-far.ensures.next c.slots.best c.slots.at c.slots.end (omega (arith, c.slots-test.false))
      c.slots.invariant.candidate c.slots.invariant.ends c.slots.invariant.lower c.slots.invariant.none;
}
