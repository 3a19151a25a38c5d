use Rattle.std.proofs.Common.{◌≡◌, ap, ◌∙◌, min, Some}
use Rattle.wot_edge.specs.Path.{root_left}
use Rattle.wot_first_path.specs.Quest.{quest_of}
use Rattle.wot_first_path.specs.Choice.{node_width}
use Rattle.wot_first_path.specs.Reached.{look}
use Rattle.wot_first_path.proofs.OneMoreTried.{taken_not, taken_is}
use Rattle.wot_first_path.proofs.choose.take.Goals as goal

pub returns-then-left-quest : goal.returns-then-left-quest
returns-then-left-quest c network =
    taken_not (quest_of network c.args.quest.now) (look c.args.nodes.now) c.args.best c.args.fpr.now
    c.left_of_root-left.result (c.left_of_root-left.ensures network) c.if-left-quest.true

pub returns : goal.returns
returns c network =
    let quest = quest_of network c.args.quest.now in
    let width : c.width_of.result ≡ node_width (look c.args.nodes.now c.args.fpr.now) =
    c.width_of.ensures ∙ ap node_width c.node_at.ensures in
    let left = c.left_of_root-left.ensures network in
    let both : c.min.result ≡ min (root_left quest.question quest.used c.args.fpr.now)
    (node_width (look c.args.nodes.now c.args.fpr.now)) = rw (← left, ← width) c.min.ensures in
    ap Some c.first_of.ensures
    ∙ taken_is quest (look c.args.nodes.now) c.args.best c.args.fpr.now c.left_of_root-left.result
    (record { fpr = c.args.fpr.now; width = c.min.result }) left c.if-left-quest.false
    (λ i. record { fpr = c.args.fpr.now; width = both i })
