use Rattle.wot_command.proofs.Lasting.{changes_held}
use Rattle.wot_command.proofs.commands.remove.Goals as goal

pub returns-in-Ok-clause-held : goal.returns-in-Ok-clause-held
returns-in-Ok-clause-held c =
    changes_held c.args.engine.now c.remove.new.self c.requires.ready c.remove.ensures.changes

pub returns-in-Err-clause-held : goal.returns-in-Err-clause-held
returns-in-Err-clause-held c =
    changes_held c.args.engine.now c.remove.new.self c.requires.ready c.remove.ensures.changes
