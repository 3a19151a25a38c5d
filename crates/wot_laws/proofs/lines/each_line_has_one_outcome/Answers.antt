use Rattle.wot_laws.proofs.Outcomes.{LineStep-one, LineStep-some, LineStep-stays}
use Rattle.wot_plain.proofs.Watched.{Tells-one, Tells-some}
use Rattle.wot_laws.proofs.lines.each_line_has_one_outcome.Goals as goal

pub returns-clause-some : goal.returns-clause-some
returns-clause-some c rows old line given =
    LineStep-some c.answer_is_one.ensures.some c.answer_is_one.ensures.one c.record_is_lawful.ensures.lawful
    c.list_is_one.ensures.some c.list_is_one.ensures.one c.least_table_is_one.ensures.some
    c.least_table_is_one.ensures.one c.check_is_one.ensures.some c.check_is_one.ensures.one
    c.lines_spell_commands.ensures.spelled rows old line given

pub returns-clause-one : goal.returns-clause-one
returns-clause-one c rows old line given reply other new third can p q =
    LineStep-one c.answer_is_one.ensures.some c.answer_is_one.ensures.one c.record_is_lawful.ensures.lawful
    c.list_is_one.ensures.some c.list_is_one.ensures.one c.least_table_is_one.ensures.some
    c.least_table_is_one.ensures.one c.check_is_one.ensures.some c.check_is_one.ensures.one
    c.lines_spell_commands.ensures.spelled rows old line given can reply other new third p q

pub returns-clause-stays : goal.returns-clause-stays
returns-clause-stays c rows old line given reply new can p = LineStep-stays rows old line given reply new can p

pub returns-clause-tells : goal.returns-clause-tells
returns-clause-tells c old = Tells-some c.answer_is_one.ensures.some old

pub returns-clause-tells_one : goal.returns-clause-tells_one
returns-clause-tells_one c old told others new third can p q =
    Tells-one c.answer_is_one.ensures.one c.record_is_lawful.ensures.lawful old told others new third can p q
