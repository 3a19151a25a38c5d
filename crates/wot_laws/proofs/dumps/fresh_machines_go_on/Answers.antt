use Rattle.wot_laws.proofs.GoingOn.{fresh_goes_on}
use Rattle.wot_laws.proofs.Outcomes.{Does-one}
use Rattle.wot_laws.proofs.dumps.fresh_machines_go_on.Goals as goal

pub returns : goal.returns
returns c rows world lines told last run anew mine theirs here there p q same =
    fresh_goes_on rows
    (λ s command given. Does-one c.answer_is_one.ensures.some c.answer_is_one.ensures.one
    c.record_is_lawful.ensures.lawful c.list_is_one.ensures.some c.list_is_one.ensures.one
    c.least_table_is_one.ensures.some c.least_table_is_one.ensures.one c.check_is_one.ensures.some
    c.check_is_one.ensures.one c.lines_spell_commands.ensures.spelled rows s command given)
    (c.each_line_has_one_outcome.ensures.stays rows)
    world lines told last run (c.reached_states_are_judged.ensures rows world lines told last run) anew mine theirs here
    there p q same
