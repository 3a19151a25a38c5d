use Rattle.wot_laws.proofs.Reached.{reached_can_be}
use Rattle.wot_laws.proofs.Explained.{replied_same}
use Rattle.wot_laws.proofs.questions.explanations_rest_on_slices.Goals as goal

pub returns : goal.returns
returns c = λ rows name target one other first second alike line explaining.
    replied_same c.explanations_rest_on_issuers.ensures.alike rows
    (record {
      some = c.each_line_has_one_outcome.ensures.some rows;
      one = c.each_line_has_one_outcome.ensures.one rows;
      stays = c.each_line_has_one_outcome.ensures.stays rows;
      tells = c.each_line_has_one_outcome.ensures.tells;
      tells_one = c.each_line_has_one_outcome.ensures.tells_one;
    })
    (c.judging.ensures.unmarked rows) name target one other
    (reached_can_be rows second.world second.lines second.replies (record { whole = other; world = second.after })
    second.run)
    (c.reached_states_are_judged.ensures rows first.world first.lines first.replies
    (record { whole = one; world = first.after }) first.run)
    (c.reached_states_are_judged.ensures rows second.world second.lines second.replies
    (record { whole = other; world = second.after }) second.run)
    alike line explaining
