use Rattle.wot_laws.proofs.Begun.{join, next}
use Rattle.wot_laws.proofs.StaleTold.{numbers_differ}
use Rattle.wot_laws.proofs.Exchanges.{runs_told}
use Rattle.wot_laws.proofs.cursors.pieces_join_to_the_list.Goals as goal

pub returns-clause-runs : goal.returns-clause-runs
returns-clause-runs c rows = runs_told rows

pub returns-clause-join : goal.returns-clause-join
returns-clause-join c rows name view wanted begun exchanges last since =
    join rows c.lines_spell_commands.ensures.spelled c.record_is_lawful.ensures.lawful c.list_is_one.ensures.some
    c.list_is_one.ensures.one
    name view wanted begun exchanges last since

pub returns-clause-next : goal.returns-clause-next
returns-clause-next c rows name view wanted begun exchanges last since =
    next rows c.lines_spell_commands.ensures.spelled c.record_is_lawful.ensures.lawful c.list_is_one.ensures.some
    c.list_is_one.ensures.one
    name view wanted begun exchanges last since

pub returns-clause-differ : goal.returns-clause-differ
returns-clause-differ c rows old line given reply new step = numbers_differ rows old line given reply new step
