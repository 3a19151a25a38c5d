use Rattle.wot_laws.proofs.Marked.{reached_marked}
use Rattle.wot_laws.proofs.lines.reached_states_are_judged.Goals as goal

pub returns : goal.returns
returns c rows world lines replies last run =
    reached_marked rows (c.judging.ensures.unmarked rows) (c.judging.ensures.forgotten rows)
    (c.judging.ensures.united rows) world lines replies last run
