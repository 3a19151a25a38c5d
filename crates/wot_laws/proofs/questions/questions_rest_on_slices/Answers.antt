use Rattle.wot_laws.proofs.Reached.{reached_can_be}
use Rattle.wot_laws.proofs.Slices.{Laws, alike, both_of, replied_same}
use Rattle.wot_laws.proofs.questions.questions_rest_on_slices.Goals as goal

pub returns : goal.returns
returns c =
    let laws : Laws = record {
      answers = c.answers_rest_on_slices.ensures.alike;
      within = c.answers_rest_on_slices.ensures.within;
      trust = c.edges_rest_on_trust.ensures.trust;
      local = c.records_agree.ensures.local;
      lawful = c.record_is_lawful.ensures.lawful;
    } in
    record {
      replies = λ rows name target one other first second alike_for line ask.
          replied_same laws rows
          (record {
            some = c.each_line_has_one_outcome.ensures.some rows;
            one = c.each_line_has_one_outcome.ensures.one rows;
            stays = c.each_line_has_one_outcome.ensures.stays rows;
            tells = c.each_line_has_one_outcome.ensures.tells;
            tells_one = c.each_line_has_one_outcome.ensures.tells_one;
          })
          (c.judging.ensures.unmarked rows) name target one other
          (reached_can_be rows first.world first.lines first.replies (record { whole = one; world = first.after })
          first.run)
          (reached_can_be rows second.world second.lines second.replies (record { whole = other; world = second.after })
          second.run)
          (c.reached_states_are_judged.ensures rows first.world first.lines first.replies
          (record { whole = one; world = first.after }) first.run)
          (c.reached_states_are_judged.ensures rows second.world second.lines second.replies
          (record { whole = other; world = second.after }) second.run)
          alike_for line ask;
      answers = λ rows name target one other first second alike_for view is_open uid wanted paths.
          (alike laws view target one.state other.state
          (both_of laws rows (c.judging.ensures.unmarked rows) name target one.state other.state
          (c.reached_states_are_judged.ensures rows first.world first.lines first.replies
          (record { whole = one; world = first.after }) first.run)
          (c.reached_states_are_judged.ensures rows second.world second.lines second.replies
          (record { whole = other; world = second.after }) second.run)
          alike_for view is_open)
          uid).answer wanted paths;
    }
