use Rattle.wot_command.proofs.Lasting.{changes_held}
use Rattle.wot_command.proofs.commands.clear_verdict.Goals as goal

pub returns-in-Ok-clause-held : goal.returns-in-Ok-clause-held
returns-in-Ok-clause-held c =
    changes_held c.args.engine.now c.clear_verdict.new.self c.requires.ready c.clear_verdict.ensures.changes

pub returns-in-Err-clause-held : goal.returns-in-Err-clause-held
returns-in-Err-clause-held c =
    changes_held c.args.engine.now c.clear_verdict.new.self c.requires.ready c.clear_verdict.ensures.changes
