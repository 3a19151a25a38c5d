use Rattle.wot_laws.proofs.Reached.{reached_can_be}
use Rattle.wot_laws.proofs.ProofsRestOnLeads.{check_replied}
use Rattle.wot_laws.proofs.questions.checks_rest_on_slices.Goals as goal

pub returns : goal.returns
returns c = λ rows name target claimed one other first second alike line asks.
    check_replied
    (record {
      made = c.edges_rest_on_trust.ensures.made;
      trust = c.edges_rest_on_trust.ensures.trust;
      local = c.records_agree.ensures.local;
    })
    rows
    (record {
      some = c.each_line_has_one_outcome.ensures.some rows;
      one = c.each_line_has_one_outcome.ensures.one rows;
      stays = c.each_line_has_one_outcome.ensures.stays rows;
      tells = c.each_line_has_one_outcome.ensures.tells;
      tells_one = c.each_line_has_one_outcome.ensures.tells_one;
    })
    name target one other
    (reached_can_be rows second.world second.lines second.replies (record { whole = other; world = second.after })
    second.run)
    (record {
      forgets = c.judging.ensures.unmarked rows;
      first = c.reached_states_are_judged.ensures rows first.world first.lines first.replies
          (record { whole = one; world = first.after }) first.run;
      second = c.reached_states_are_judged.ensures rows second.world second.lines second.replies
          (record { whole = other; world = second.after }) second.run;
    })
    c.checks_rest_on_what_they_name.ensures c.lines_spell_commands.ensures.spelled claimed alike line asks
