use Rattle.std.proofs.Common.{refl, sym}
use Rattle.wot_certd.specs.World.{Answer}
use Rattle.wot_policy.specs.Kept.{rows_of}
use Rattle.wot_cache.specs.State.{state_of}
use Rattle.wot_script.specs.declared.reply.Reply.TheVariants as replies
use Rattle.wot_plain.specs.Entry.{loads}
use Rattle.wot_plain.proofs.Faults.{failed}
use Rattle.wot_command.proofs.Lasting.{held_still, judging_still}
use Rattle.wot_command.proofs.PolicyAskedByLine.{asked_still}
use Rattle.wot_plain.proofs.Results.{any_err}
use Rattle.wot_command.proofs.DirectoryAfterFailure.{puts_none}
use Rattle.wot_plain.proofs.Results.{if_ok}
use Rattle.wot_command.proofs.Calling.{ran_load, told_so}
use Rattle.wot_command.proofs.load.load.Goals as goal

pub returns-in-Ok-Bytes-clause-did : goal.returns-in-Ok-Bytes-clause-did
returns-in-Ok-Bytes-clause-did g c =
    let answer : Answer = Answer.entry c.in-Ok-Bytes.octets.items in
    if_ok c.enter.result _ _ (λ reply gives.
    ran_load (rows_of c.args.policy.now) c.args.name.now (state_of c.args.engine.now) (g.D.Shelf.world c.args.shelf.now)
    (g.D.Shelf.world c.read.new.self)
    (g.D.Shelf.faults c.args.shelf.now) (g.D.Shelf.faults c.read.new.self) reply (state_of c.enter.new.engine) answer
    gives
    (told_so (g.D.Shelf.world c.args.shelf.now) c.args.name.now answer _ (λ a p. sym p)
    (rw c.in-Ok-Bytes.field-0-is at c.in-Ok-Bytes.ensures.answers))
    c.read.ensures.after (λ e. absurd (cc e))) (rw c.deref.ensures.value at c.enter.ensures.gives)

pub returns-in-Ok-Absent-clause-did : goal.returns-in-Ok-Absent-clause-did
returns-in-Ok-Absent-clause-did g c =
    ran_load (rows_of c.args.policy.now) c.args.name.now (state_of c.args.engine.now) (g.D.Shelf.world c.args.shelf.now)
    (g.D.Shelf.world c.read.new.self)
    (g.D.Shelf.faults c.args.shelf.now) (g.D.Shelf.faults c.read.new.self) c.reply_to_missing.result
    (state_of c.args.engine.now) Answer.absent (c.reply_to_missing.ensures.reply, refl)
    (told_so (g.D.Shelf.world c.args.shelf.now) c.args.name.now Answer.absent _ (λ a p. sym p)
    (rw c.in-Ok-Absent.field-0-is at c.in-Ok-Absent.ensures.answers))
    c.read.ensures.after (λ e. absurd (cc e))

pub returns-in-Ok-Long-clause-did : goal.returns-in-Ok-Long-clause-did
returns-in-Ok-Long-clause-did g c =
    ran_load (rows_of c.args.policy.now) c.args.name.now (state_of c.args.engine.now) (g.D.Shelf.world c.args.shelf.now)
    (g.D.Shelf.world c.read.new.self)
    (g.D.Shelf.faults c.args.shelf.now) (g.D.Shelf.faults c.read.new.self) replies.Long (state_of c.args.engine.now)
    Answer.long (refl, refl)
    (told_so (g.D.Shelf.world c.args.shelf.now) c.args.name.now Answer.long _ (λ a p. sym p)
    (rw c.in-Ok-Long.field-0-is at c.in-Ok-Long.ensures.answers))
    c.read.ensures.after (λ e. absurd (cc e))

pub returns-in-Err-clause-did : goal.returns-in-Err-clause-did
returns-in-Err-clause-did g c =
    failed c.reply_to.result c.from.result c.in-Err.fault _ c.from.ensures c.reply_to.ensures.reply (λ e.
    ran_load (rows_of c.args.policy.now) c.args.name.now (state_of c.args.engine.now) (g.D.Shelf.world c.args.shelf.now)
    (g.D.Shelf.world c.read.new.self)
    (g.D.Shelf.faults c.args.shelf.now) (g.D.Shelf.faults c.read.new.self) replies.Shelf (state_of c.args.engine.now)
    Answer.fault (refl, refl)
    (told_so (g.D.Shelf.world c.args.shelf.now) c.args.name.now Answer.fault _ (λ a p. sym p)
    (rw e at c.in-Err.ensures.answers))
    c.read.ensures.after (λ f. (rw e at c.in-Err.ensures.cause) refl))

-- ---- out of memory

pub returns-in-Ok-Bytes-clause-entries : goal.returns-in-Ok-Bytes-clause-entries
returns-in-Ok-Bytes-clause-entries g c =
    any_err c.enter.result _ (puts_none (state_of c.args.engine.now) (loads c.args.name.now)
    (g.D.Shelf.world c.args.shelf.now) (g.D.Shelf.world c.read.new.self)
    c.read.ensures.after)

pub returns-in-Err-clause-entries : goal.returns-in-Err-clause-entries
returns-in-Err-clause-entries g c =
    any_err c.reply_to.result _ (puts_none (state_of c.args.engine.now) (loads c.args.name.now)
    (g.D.Shelf.world c.args.shelf.now) (g.D.Shelf.world c.read.new.self) c.read.ensures.after)

pub returns-in-Err-clause-kept : goal.returns-in-Err-clause-kept
returns-in-Err-clause-kept g c = any_err c.reply_to.result _ refl

-- ---- the policy

pub returns-in-Ok-Absent-clause-asked : goal.returns-in-Ok-Absent-clause-asked
returns-in-Ok-Absent-clause-asked g c = asked_still _ (state_of c.args.engine.now) c.args.policy.now

pub returns-in-Ok-Long-clause-asked : goal.returns-in-Ok-Long-clause-asked
returns-in-Ok-Long-clause-asked g c = asked_still _ (state_of c.args.engine.now) c.args.policy.now

pub returns-in-Err-clause-asked : goal.returns-in-Err-clause-asked
returns-in-Err-clause-asked g c = asked_still _ (state_of c.args.engine.now) c.args.policy.now

-- ---- an entry that is read

pub enter-requires-clause-ready : goal.enter-requires-clause-ready
enter-requires-clause-ready g c = c.requires.ready

pub enter-requires-clause-judging : goal.enter-requires-clause-judging
enter-requires-clause-judging g c = c.requires.judging

pub returns-in-Ok-Bytes-clause-held : goal.returns-in-Ok-Bytes-clause-held
returns-in-Ok-Bytes-clause-held g c = c.enter.ensures.held

pub returns-in-Ok-Bytes-clause-judging : goal.returns-in-Ok-Bytes-clause-judging
returns-in-Ok-Bytes-clause-judging g c = c.enter.ensures.judging

-- ---- an entry that isn't read

pub returns-in-Ok-Absent-clause-held : goal.returns-in-Ok-Absent-clause-held
returns-in-Ok-Absent-clause-held g c = held_still c.args.engine.now c.requires.ready

pub returns-in-Ok-Absent-clause-judging : goal.returns-in-Ok-Absent-clause-judging
returns-in-Ok-Absent-clause-judging g c =
    judging_still g.F.Fn c.args.policy.now c.args.engine.now.keyring c.args.engine.now.keyring refl
    c.requires.judging

pub returns-in-Ok-Long-clause-held : goal.returns-in-Ok-Long-clause-held
returns-in-Ok-Long-clause-held g c = held_still c.args.engine.now c.requires.ready

pub returns-in-Ok-Long-clause-judging : goal.returns-in-Ok-Long-clause-judging
returns-in-Ok-Long-clause-judging g c =
    judging_still g.F.Fn c.args.policy.now c.args.engine.now.keyring c.args.engine.now.keyring refl
    c.requires.judging

pub returns-in-Err-clause-held : goal.returns-in-Err-clause-held
returns-in-Err-clause-held g c = held_still c.args.engine.now c.requires.ready

pub returns-in-Err-clause-judging : goal.returns-in-Err-clause-judging
returns-in-Err-clause-judging g c =
    judging_still g.F.Fn c.args.policy.now c.args.engine.now.keyring c.args.engine.now.keyring refl
    c.requires.judging
