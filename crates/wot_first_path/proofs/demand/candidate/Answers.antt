use Rattle.std.proofs.Common.{◌≡◌, sym, ap, ◌∙◌, min, ◌+◌, nat_le, nat_lt, ◌&&◌}
use Rattle.wot_edge.specs.Path.{step_of, step_left}
use Rattle.wot_edge.specs.Demand.{is_met}
use Rattle.wot_first_path.specs.Demand.{is_enough}
use Rattle.wot_first_path.specs.Quest.{quest_of}
use Rattle.std.proofs.lemmas.Bool.{and_from}
use Rattle.wot_first_path.proofs.OneEdgeConsidered.{and_not, none_if, some_if}
use Rattle.wot_first_path.proofs.demand.candidate.Goals as goal

pub returns-then-not-reaches : goal.returns-then-not-reaches
returns-then-not-reaches c network =
    let quest = quest_of network c.args.quest.now in
    none_if (is_met c.args.quest.now.asked.target.now c.args.demand c.args.edge.now)
    (is_enough quest c.args.size c.args.edge.now) _
    (and_not (nat_le quest.least (step_left quest.used (step_of c.args.edge.now)))
    (nat_lt c.args.size (quest.reach c.args.edge.now.issuer))
    (sym (c.reaches.ensures network) ∙ c.if-not-reaches.true))

pub returns-then-not-suffices : goal.returns-then-not-suffices
returns-then-not-suffices c network =
    let quest = quest_of network c.args.quest.now in
    let left : c.left_of_step-left.result ≡ step_left quest.used (step_of c.args.edge.now) =
    c.left_of_step-left.ensures ∙ ap (step_left quest.used) c.step_from-step.ensures in
    let short = ap (nat_le quest.least) (sym left) ∙ sym c.suffices.ensures ∙ c.if-not-suffices.true in
    none_if (is_met c.args.quest.now.asked.target.now c.args.demand c.args.edge.now)
    (is_enough quest c.args.size c.args.edge.now) _
    (ap (λ (b : _). b && nat_lt c.args.size (quest.reach c.args.edge.now.issuer)) short)

pub returns : goal.returns
returns c network =
    let quest = quest_of network c.args.quest.now in
    let left : c.left_of_step-left.result ≡ step_left quest.used (step_of c.args.edge.now) =
    c.left_of_step-left.ensures ∙ ap (step_left quest.used) c.step_from-step.ensures in
    let wide : c.min.result ≡ min (step_left quest.used (step_of c.args.edge.now)) c.args.width =
    rw (← left) c.min.ensures in
    let enough = and_from (nat_le quest.least (step_left quest.used (step_of c.args.edge.now)))
    (nat_lt c.args.size (quest.reach c.args.edge.now.issuer))
    (ap (nat_le quest.least) (sym left) ∙ sym c.suffices.ensures ∙ c.if-not-suffices.false)
    (sym (c.reaches.ensures network) ∙ c.if-not-reaches.false) in
    some_if (is_met c.args.quest.now.asked.target.now c.args.demand c.args.edge.now)
    (is_enough quest c.args.size c.args.edge.now) _ _
    (sym c.meets.ensures ∙ c.if-not-meets.false) enough
    (λ i. record { step = c.step_from-step.ensures i; size = c.args.size + 1; width = wide i })
