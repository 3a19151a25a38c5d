use Rattle.wot_index.proofs.Indexed.{noted_new, logged_new}
use Rattle.wot_index.proofs.index.note_new.Goals as goal

pub returns-clause-noted : goal.returns-clause-noted
returns-clause-noted c = λ exact. (
  exact,
  noted_new c.args.index.now.verdicts c.hold.new.self c.args.number c.args.fpr c.in_ok-hold.ensures.held
      c.requires.absent,
)

pub returns-clause-log : goal.returns-clause-log
returns-clause-log c = λ exact. (
  exact,
  logged_new c.args.index.now.verdicts c.hold.new.self c.args.number c.args.fpr c.in_ok-hold.ensures.held
      c.args.log.now.items c.put_in_log.new.log.items c.put_in_log.ensures.logged c.requires.absent,
)
