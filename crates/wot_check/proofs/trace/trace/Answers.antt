use Rattle.std.proofs.Common.{◌≡◌, ◌∷◌, length, Option, ap, subst, arith}
use Rattle.wot_edge.specs.declared.path.Step.{Step}
use Rattle.wot_check.specs.Asked.{question_of, used_in}
use Rattle.wot_check.specs.Trace.{IsFollower}
use Rattle.wot_check.proofs.ClaimedSteps.{traced_none, traced_more, traced_stop, traced_end}
use Rattle.wot_check.proofs.trace.trace.Goals as goal

pub rest-init : goal.rest-init
rest-init g c =
    let q = question_of (g.R.Roads.network c.args.roads.now) c.args.asked.now in
    record {
      few = c.requires.few;
      traced = traced_none q (used_in c.args.asked.now) c.requires.lawful c.args.items.now c.new-steps.result.items
          c.new-steps.ensures.items;
    }

pub rest-preserved : goal.rest-preserved
rest-preserved g c =
    let q = question_of (g.R.Roads.network c.args.roads.now) c.args.asked.now in
    let used = used_in c.args.asked.now in
    let both = c.in-Some.ensures.cases.0 in
    let few = c.rest.invariant.few in
    let l : length c.rest.rest.now ≡ length (c.in-Some.item.now ∷ c.in-Some.later.now) = ap length both in
    let follows =
    subst (λ (found : Option Step). IsFollower q used c.in-Some.item.now c.in-Some.later.now found) c.in-Some-2.is
    c.in_ok-follow.ensures.found in
    record {
      few = omega (arith, few, l);
      traced = traced_more q used c.requires.lawful c.args.items.now c.rest.steps.items c.push.new.self.items
          c.rest.rest.now c.in-Some.later.now c.in-Some.item.now c.in-Some-2.step both
          c.in_ok-push-in-Some-2.ensures.items follows c.rest.invariant.traced;
    }

pub returns-in-None : goal.returns-in-None
returns-in-None g c =
    let q = question_of (g.R.Roads.network c.args.roads.now) c.args.asked.now in
    let used = used_in c.args.asked.now in
    let none = subst (λ (found : Option Step). IsFollower q used c.in-Some.item.now c.in-Some.later.now found)
    c.in-None.is c.in_ok-follow.ensures.found in
    record {
      traced = traced_stop q used c.requires.lawful c.args.items.now c.rest.steps.items c.rest.rest.now
          c.in-Some.later.now c.in-Some.item.now c.in-Some.ensures.cases.0 none c.rest.invariant.traced;
    }

pub returns : goal.returns
returns g c =
    let q = question_of (g.R.Roads.network c.args.roads.now) c.args.asked.now in
    record {
      traced = traced_end q (used_in c.args.asked.now) c.requires.lawful c.args.items.now c.rest.steps.items
          c.rest.rest.now c.in_default.ensures.cases c.rest.invariant.traced;
    }
