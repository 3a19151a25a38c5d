use Rattle.wot_edge.specs.Path.{asks}
use Rattle.wot_auth.proofs.ask.authenticate_within.Goals as goal

pub returns-clause-one : goal.returns-clause-one
returns-clause-one g c paths a =
    let q = asks (g.R.Roads.network c.args.roads.now c.args.asked.now.uid.now) c.args.asked.now.roots.now c.args.asked.now.target.now in
    c.answer_is_one.ensures.one q c.args.wanted paths c.in_ok-answer.answer.paths c.in_ok-answer.ensures.lawful a
    c.in_ok-answer.ensures.answer
