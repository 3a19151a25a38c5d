use Rattle.wot_explain.proofs.Listed.{listed_some, listed_one}
use Rattle.wot_explain.proofs.laws.list_is_one.Goals as goal

pub returns-clause-some : goal.returns-clause-some
returns-clause-some c = listed_some c.answer_is_one.ensures.some

pub returns-clause-one : goal.returns-clause-one
returns-clause-one c = listed_one c.answer_is_one.ensures.one
