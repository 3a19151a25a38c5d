use Rattle.wot_plain.proofs.Results.{if_ok}
use Rattle.wot_command.proofs.Lasting.{changes_held}
use Rattle.wot_command.proofs.RefusedReplies.{judge_gives}
use Rattle.wot_command.proofs.commands.set_verdict.Goals as goal

pub returns-in-Err-clause-gives : goal.returns-in-Err-clause-gives
returns-in-Err-clause-gives c =
    if_ok c.reply_to.result _ _ (λ reply is.
    judge_gives c.args.engine.now c.set_verdict.new.self c.args.number c.args.verdict c.in-Err.refusal reply
    c.requires.ready.standard c.in-Err.ensures.full c.in-Err.ensures.kept is) c.reply_to.ensures.reply

pub returns-in-Ok-clause-held : goal.returns-in-Ok-clause-held
returns-in-Ok-clause-held c =
    changes_held c.args.engine.now c.set_verdict.new.self c.requires.ready c.set_verdict.ensures.changes

pub returns-in-Err-clause-held : goal.returns-in-Err-clause-held
returns-in-Err-clause-held c =
    changes_held c.args.engine.now c.set_verdict.new.self c.requires.ready c.set_verdict.ensures.changes
