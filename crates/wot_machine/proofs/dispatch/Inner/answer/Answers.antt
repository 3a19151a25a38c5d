use Rattle.std.proofs.Common.{refl}
use Rattle.std.proofs.lemmas.Result.{on_ok_weaker}
use Rattle.wot_policy.specs.Kept.{rows_of}
use Rattle.wot_script.specs.Grammar.{command_of}
use Rattle.wot_policy.specs.declared.rows.PolicyRows.{PolicyRows}
use Rattle.wot_cache.specs.State.{state_of}
use Rattle.wot_plain.specs.Fresh.{IsMadeAnew}
use Rattle.wot_plain.specs.Pacing.{settled}
use Rattle.wot_plain.specs.Session.{watched, session_of}
use Rattle.wot_command.proofs.PolicyAskedByLine.{asks_not}
use Rattle.wot_machine.proofs.DumpLine.{on_dump, dump_is_read}
use Rattle.wot_command.proofs.EdgeLines.{none_marks}
use Rattle.wot_plain.specs.Entry.{use_of}
use Rattle.wot_command.proofs.Lasting.{judging_still, touches_none}
use Rattle.wot_plain.proofs.Results.{if_ok}
use Rattle.wot_machine.proofs.CommandsInLines.{ran_told_line}
use Rattle.wot_machine.proofs.Unchanged.{runs_none}
use Rattle.wot_machine.proofs.Worded.{obeys_worded}
use Rattle.wot_machine.proofs.dispatch.Inner.answer.Goals as goal

pub run_class-requires-clause-ready : goal.run_class-requires-clause-ready
run_class-requires-clause-ready g c = c.requires.ready

pub run_class-requires-clause-judging : goal.run_class-requires-clause-judging
run_class-requires-clause-judging g c = c.requires.judging

pub returns-in-Ok-clause-words : goal.returns-in-Ok-clause-words
returns-in-Ok-clause-words g c =
    if_ok c.run_class.result _ _ (λ drafted ran. obeys_worded (rows_of c.args.policy.now)
    (watched (session_of c.args.self.now.engine c.args.self.now.cursors) c.args.self.now.watches) c.classify.result
    ran.given drafted.reply
    (watched (session_of c.run_class.new.self.engine (settled drafted.moved c.run_class.new.self.cursors)) c.run_class.new.self.watches)
    ran.answers) c.run_class.ensures.ran

pub returns-in-Ok-clause-anew : goal.returns-in-Ok-clause-anew
returns-in-Ok-clause-anew g c =
    on_ok_weaker c.run_class.result (on_dump c.args.line.now c.in-Ok.command
    ((rows : PolicyRows) → IsMadeAnew rows (state_of c.args.self.now.engine)) c.in-Ok.ensures.read)
    (rw c.classify.ensures.class at c.run_class.ensures.anew)

pub returns-in-Err-Line-clause-anew : goal.returns-in-Err-Line-clause-anew
returns-in-Err-Line-clause-anew g c =
    dump_is_read c.args.line.now ((rows : PolicyRows) → IsMadeAnew rows (state_of c.args.self.now.engine))
    ((rw c.in-Err-Line.field-0-is at c.in-Err-Line.ensures.line) refl)

pub returns-in-Ok-clause-ran : goal.returns-in-Ok-clause-ran
returns-in-Ok-clause-ran g c = rw c.in-Ok.ensures.read (rw c.classify.ensures.class at c.run_class.ensures.ran)

pub returns-in-Ok-clause-directory : goal.returns-in-Ok-clause-directory
returns-in-Ok-clause-directory g c = rw c.in-Ok.ensures.read (rw c.classify.ensures.class at c.run_class.ensures.directory)

pub returns-in-Err-Line-clause-ran : goal.returns-in-Err-Line-clause-ran
returns-in-Err-Line-clause-ran g c =
    ran_told_line c.alone.result (rows_of c.args.policy.now) (command_of c.args.line.now) c.args.self.now.engine
    c.args.self.now.cursors c.args.self.now.watches
    (record { world = g.D.Shelf.world c.args.shelf.now; faults = g.D.Shelf.faults c.args.shelf.now })
    c.alone.ensures.reply c.alone.ensures.moved
    ((rw c.in-Err-Line.field-0-is at c.in-Err-Line.ensures.line) refl)

pub returns-in-Ok-clause-asked : goal.returns-in-Ok-clause-asked
returns-in-Ok-clause-asked g c = rw c.in-Ok.ensures.read (rw c.classify.ensures.class at c.run_class.ensures.asked)

pub returns-in-Err-Line-clause-asked : goal.returns-in-Err-Line-clause-asked
returns-in-Err-Line-clause-asked g c = asks_not _ (command_of c.args.line.now) (state_of c.args.self.now.engine)
    c.args.policy.now

pub returns-in-Err-Memory-clause-asked : goal.returns-in-Err-Memory-clause-asked
returns-in-Err-Memory-clause-asked g c = asks_not _ (command_of c.args.line.now) (state_of c.args.self.now.engine)
    c.args.policy.now

pub returns-in-Ok-clause-edges : goal.returns-in-Ok-clause-edges
returns-in-Ok-clause-edges g c = rw c.in-Ok.ensures.read (rw c.classify.ensures.class at c.run_class.ensures.edges)

pub returns-in-Err-Line-clause-edges : goal.returns-in-Err-Line-clause-edges
returns-in-Err-Line-clause-edges g c =
    none_marks c.args.self.now.engine (command_of c.args.line.now)
    ((rw c.in-Err-Line.field-0-is at c.in-Err-Line.ensures.line) refl)

pub returns-in-Ok-clause-makes : goal.returns-in-Ok-clause-makes
returns-in-Ok-clause-makes g c = rw c.in-Ok.ensures.read (rw c.classify.ensures.class at c.run_class.ensures.makes)

pub returns-in-Ok-clause-once : goal.returns-in-Ok-clause-once
returns-in-Ok-clause-once g c = c.run_class.ensures.once

pub returns-in-Ok-clause-judging : goal.returns-in-Ok-clause-judging
returns-in-Ok-clause-judging g c = c.run_class.ensures.judging

-- ---- what is no command, and out of memory

pub returns-in-Err-Line-clause-directory : goal.returns-in-Err-Line-clause-directory
returns-in-Err-Line-clause-directory g c =
    touches_none _ (state_of c.args.self.now.engine) (use_of (command_of c.args.line.now)) g.D.Shelf.world
    g.D.Shelf.faults c.args.shelf.now

pub returns-in-Err-Line-clause-once : goal.returns-in-Err-Line-clause-once
returns-in-Err-Line-clause-once g c =
    runs_none c.args.self.now.engine c.args.self.now.engine c.requires.ready
    (record { keyring = refl; views = refl; revisions = refl })

pub returns-in-Err-Line-clause-judging : goal.returns-in-Err-Line-clause-judging
returns-in-Err-Line-clause-judging g c =
    judging_still g.F.Fn c.args.policy.now c.args.self.now.engine.keyring c.args.self.now.engine.keyring refl
    c.requires.judging

pub returns-in-Err-Memory-clause-directory : goal.returns-in-Err-Memory-clause-directory
returns-in-Err-Memory-clause-directory g c =
    touches_none _ (state_of c.args.self.now.engine) (use_of (command_of c.args.line.now)) g.D.Shelf.world
    g.D.Shelf.faults c.args.shelf.now

pub returns-in-Err-Memory-clause-once : goal.returns-in-Err-Memory-clause-once
returns-in-Err-Memory-clause-once g c =
    runs_none c.args.self.now.engine c.args.self.now.engine c.requires.ready
    (record { keyring = refl; views = refl; revisions = refl })

pub returns-in-Err-Memory-clause-judging : goal.returns-in-Err-Memory-clause-judging
returns-in-Err-Memory-clause-judging g c =
    judging_still g.F.Fn c.args.policy.now c.args.self.now.engine.keyring c.args.self.now.engine.keyring refl
    c.requires.judging
