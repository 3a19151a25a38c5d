use Rattle.std.proofs.Common.{◌≡◌, ℕ, List, length, Option, Some, None, Vec, Global, ap, subst, arith}
use Rattle.wot_edge.specs.declared.path.Step.{Step}
use Rattle.wot_check.specs.declared.claimed.ClaimedStep.{ClaimedStep}
use Rattle.wot_check.specs.Asked.{question_of, used_in}
use Rattle.wot_check.specs.Trace.{IsTrace, IsShown, Traces}
use Rattle.wot_check.proofs.ShownPaths.{untraced}
use Rattle.wot_check.proofs.ClaimedSteps.{traces_long}
use Rattle.wot_check.proofs.show.show.Goals as goal

pub returns-in-None : goal.returns-in-None
returns-in-None g c =
    let q = question_of (g.R.Roads.network c.args.roads.now) c.args.asked.now in
    let used = used_in c.args.asked.now in
    let none : (steps : List Step) → Traces q used c.args.claim.now.steps steps → ⊥ =
    subst (λ (items : List ClaimedStep). IsTrace q used items None) c.steps-2.ensures.steps
    (subst (λ (found : Option (Vec Step Global)). IsTrace q used c.steps-2.result.now found) c.in-None.is
    c.in_ok-trace.ensures.traced) in
    record { shown = untraced q used c.args.claim.now none }

pub returns-in-Some : goal.returns-in-Some
returns-in-Some g c =
    let network = g.R.Roads.network c.args.roads.now in
    let q = question_of network c.args.asked.now in
    let used = used_in c.args.asked.now in
    let items = c.args.claim.now.steps in
    let t : Traces q used items c.in-Some.steps.items =
    subst (λ (xs : List ClaimedStep). IsTrace q used xs (Some c.in-Some.steps)) c.steps-2.ensures.steps
    (subst (λ (found : Option (Vec Step Global)). IsTrace q used c.steps-2.result.now found) c.in-Some.is
    c.in_ok-trace.ensures.traced) in
    let long = traces_long q used items c.in-Some.steps.items t in
    let few = c.if-steps-gt255.false in
    let same : length c.steps-else-is_empty.result.now ≡ length items = ap length c.steps-else-is_empty.ensures.steps in
    record {
      shown = subst (λ (n : ℕ). IsShown q used (record { amount = n; steps = items }) c.path_by.result)
          c.amount.ensures.amount
          (c.path_by.ensures network c.requires.lawful c.requires.in_order (omega (arith, long, few, same)) items t);
    }
