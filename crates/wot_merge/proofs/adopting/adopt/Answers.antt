use Rattle.std.proofs.Common.{◌-◌, refl, sym, subst, arith}
use Rattle.wot_policy.specs.Kept.{rows_of}
use Rattle.wot_component.specs.Judged.{IsJudged}
use Rattle.wot_merge.proofs.ImportSteps.{not_asked}
use Rattle.wot_merge.proofs.Unions.{counts_key, counts_others, few_marked, step_first}
use Rattle.wot_merge.proofs.adopting.adopt.Goals as goal

pub returns-then-not-is_held-clause-asked : goal.returns-then-not-is_held-clause-asked
returns-then-not-is_held-clause-asked g c = (0, not_asked c.args.policy.now, refl)

pub weigh_cert-after-requires : goal.weigh_cert-after-requires
weigh_cert-after-requires g c =
    few_marked (rows_of c.args.policy.now) c.args.cert c.judge.new.self c.judge.ensures.judged
    (c.marks_weigh_nothing.ensures.judged_text (rows_of c.args.policy.now) c.args.cert)
    (c.is_held.ensures.held c.if-not-is_held.false)

pub overflow_sub-others : goal.overflow_sub-others
overflow_sub-others g c =
    let some = counts_key c.judge.new.self c.items-others.result c.items-others.ensures.items in
    omega (arith, some)

pub returns-clause-step : goal.returns-clause-step
returns-clause-step g c =
    let rows = rows_of c.args.policy.now in
    let items = c.items-others.ensures.items in
    let others =
    counts_others rows c.args.cert c.judge.new.self c.items-others.result items c.judge.ensures.judged
    (c.marks_weigh_nothing.ensures.judged_items rows c.args.cert) (c.is_held.ensures.held c.if-not-is_held.false) in
    step_first rows c.args.terms.now.stamp c.args.terms.now.limit c.args.cert c.judge.new.self
    c.weigh_cert-after.result (c.items-others.result - 1) c.args.terms.now.stamp c.judge.ensures.judged
    c.weigh_cert-after.ensures.weighs others
    (subst (IsJudged rows) (sym c.judge.ensures.judged) (c.judging.ensures.judged rows c.args.cert)) refl

pub returns-clause-asked : goal.returns-clause-asked
returns-clause-asked g c = c.judge.ensures.asked
