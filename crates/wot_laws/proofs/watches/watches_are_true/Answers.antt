use Rattle.wot_laws.proofs.QuietWatches.{lines_quiet}
use Rattle.wot_laws.proofs.TrueWatches.{lines_news, watches_true}
use Rattle.wot_laws.proofs.watches.watches_are_true.Goals as goal

pub returns-clause-now : goal.returns-clause-now
returns-clause-now c rows = watches_true rows c.lines_spell_commands.ensures.spelled

pub returns-clause-news : goal.returns-clause-news
returns-clause-news c rows = lines_news rows c.lines_spell_commands.ensures.spelled

pub returns-clause-quiet : goal.returns-clause-quiet
returns-clause-quiet c rows =
    lines_quiet rows c.lines_spell_commands.ensures.spelled c.answer_is_one.ensures.one
    c.record_is_lawful.ensures.lawful
