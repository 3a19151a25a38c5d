use Rattle.std.proofs.Common.{sym, ◌∙◌, arith}
use Rattle.wot_first_path.specs.Quest.{quest_of}
use Rattle.wot_first_path.specs.Reached.{look}
use Rattle.wot_first_path.proofs.FirstPathFound.{turn_none, turn_some}
use Rattle.wot_first_path.proofs.first_of_layer.first_of_layer.Goals as goal

pub returns-in-None : goal.returns-in-None
returns-in-None c network good small is complete u =
    turn_none (quest_of network c.args.quest.now) good small (look c.args.reached.now.nodes) c.args.size
    c.args.reached.now.layer.items is u (sym c.in-None.is ∙ c.choose.ensures network)

pub returns-in_ok-path-in-Some : goal.returns-in_ok-path-in-Some
returns-in_ok-path-in-Some c network good small is complete u =
    let quest = quest_of network c.args.quest.now in
    turn_some quest good small (look c.args.reached.now.nodes) c.args.size c.args.reached.now.layer.items is complete u
    c.requires (omega (arith, c.ranges.size)) c.in-Some.choice (sym c.in-Some.is ∙ c.choose.ensures network)
    c.in_ok-path-in-Some.path (c.in_ok-path-in-Some.ensures.steps quest good) c.in_ok-path-in-Some.ensures.root
    c.in_ok-path-in-Some.ensures.amount
