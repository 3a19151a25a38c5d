use Rattle.wot_policy.specs.Kept.{rows_of}
use Rattle.wot_command.proofs.Lasting.{changes_held}
use Rattle.wot_command.proofs.PolicyAskedByLine.{asked_new, asked_refused}
use Rattle.wot_plain.proofs.Results.{if_ok}
use Rattle.wot_command.proofs.RefusedReplies.{load_gives, load_taken}
use Rattle.wot_command.proofs.load.enter.Goals as goal

pub returns-in-Err-clause-gives : goal.returns-in-Err-clause-gives
returns-in-Err-clause-gives g c =
    if_ok c.reply_to.result _ _ (λ reply is.
    load_gives c.args.name.now (rows_of c.args.policy.now) c.args.engine.now c.load.new.self c.args.octets.now
    c.in-Err.refusal reply
    c.requires.ready.standard c.in-Err.ensures.answer c.in-Err.ensures.kept is) c.reply_to.ensures.reply

pub returns-in-Ok-clause-gives : goal.returns-in-Ok-clause-gives
returns-in-Ok-clause-gives g c =
    load_taken c.args.name.now (rows_of c.args.policy.now) c.args.engine.now c.load.new.self c.args.octets.now
    c.in-Ok.counts c.requires.ready.standard c.in-Ok.ensures.answer c.in-Ok.ensures.imported.state

pub returns-in-Ok-clause-asked : goal.returns-in-Ok-clause-asked
returns-in-Ok-clause-asked g c =
    asked_new _ (rows_of c.args.policy.now) c.args.engine.now c.load.new.self c.args.octets.now c.in-Ok.counts
    c.args.policy.now c.load.new.policy
    c.in-Ok.ensures.asked c.in-Ok.ensures.imported.state

pub returns-in-Err-clause-asked : goal.returns-in-Err-clause-asked
returns-in-Err-clause-asked g c =
    asked_refused c.reply_to.result (rows_of c.args.policy.now) c.args.engine.now c.load.new.self c.args.octets.now
    c.in-Err.refusal c.args.policy.now c.load.new.policy
    c.in-Err.ensures.asked c.in-Err.ensures.kept c.reply_to.ensures.reply

pub load-requires : goal.load-requires
load-requires g c = record {
  countable = c.requires.ready.countable;
  short = c.requires.small;
  judging = c.requires.judging;
}

pub returns-in-Ok-clause-held : goal.returns-in-Ok-clause-held
returns-in-Ok-clause-held g c =
    changes_held c.args.engine.now c.load.new.self c.requires.ready c.load.ensures.changes

pub returns-in-Ok-clause-judging : goal.returns-in-Ok-clause-judging
returns-in-Ok-clause-judging g c = c.load.ensures.judging

pub returns-in-Err-clause-held : goal.returns-in-Err-clause-held
returns-in-Err-clause-held g c =
    changes_held c.args.engine.now c.load.new.self c.requires.ready c.load.ensures.changes

pub returns-in-Err-clause-judging : goal.returns-in-Err-clause-judging
returns-in-Err-clause-judging g c = c.load.ensures.judging
