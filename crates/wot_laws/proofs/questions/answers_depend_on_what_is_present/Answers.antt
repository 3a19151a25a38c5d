use Rattle.wot_laws.proofs.Reached.{reached_can_be}
use Rattle.wot_laws.proofs.Alike.{replied_alike, same_certs}
use Rattle.wot_laws.proofs.questions.answers_depend_on_what_is_present.Goals as goal

pub returns : goal.returns
returns c = record {
  present = λ rows name one other first second alike line ask.
      replied_alike rows
      (record {
        some = c.each_line_has_one_outcome.ensures.some rows;
        one = c.each_line_has_one_outcome.ensures.one rows;
        stays = c.each_line_has_one_outcome.ensures.stays rows;
        tells = c.each_line_has_one_outcome.ensures.tells;
        tells_one = c.each_line_has_one_outcome.ensures.tells_one;
      })
      one other name line (reached_can_be rows second.world second.lines second.replies
      (record { whole = other; world = second.after }) second.run)
      (same_certs rows (c.judging.ensures.unmarked rows) one.state other.state
      (c.reached_states_are_judged.ensures rows first.world first.lines first.replies
      (record { whole = one; world = first.after }) first.run)
      (c.reached_states_are_judged.ensures rows second.world second.lines second.replies
      (record { whole = other; world = second.after }) second.run) alike.certs)
      alike.verdicts alike.view ask;
}
