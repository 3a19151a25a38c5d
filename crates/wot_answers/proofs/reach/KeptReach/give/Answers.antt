use Rattle.wot_network.specs.Net.{network_for}
use Rattle.wot_answers.specs.Question.{present_in}
use Rattle.wot_answers.proofs.reach.KeptReach.give.Goals as goal

pub returns-then-is_now : goal.returns-then-is_now
returns-then-is_now c =
    let p = c.args.parts.now in
    record {
      reach = c.reach.ensures.reach (network_for (present_in p)) p.roots.now (c.is_now.ensures.now c.if-is_now.true);
    }
