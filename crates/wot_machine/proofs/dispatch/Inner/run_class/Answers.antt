use Rattle.std.proofs.Common.{◌≡◌, false, refl, sym, ◌∙◌}
use Rattle.wot_policy.specs.Kept.{rows_of}
use Rattle.wot_script.specs.declared.reply.Reply.{Reply}
use Rattle.wot_script.specs.Replies.{is_short}
use Rattle.wot_cache.specs.State.{StaysButMarks, state_of}
use Rattle.wot_plain.specs.declared.class.Class.TheVariants.{State as OfState, Cursor as OfCursor, Watch as OfWatch}
use Rattle.wot_plain.specs.Entry.{use_by}
use Rattle.wot_command.proofs.PolicyAskedByLine.{asks_by_as}
use Rattle.wot_plain.proofs.EdgesMadeByLine.{makes_for_as, watch_makes_as}
use Rattle.wot_command.proofs.Lasting.{judging_still, touches_none}
use Rattle.wot_plain.proofs.Results.{if_ok}
use Rattle.wot_machine.proofs.Unchanged.{runs_none}
use Rattle.wot_machine.proofs.CommandsInLines.{few_turns, kept_told, on_err_told, on_ok_told, paced_ran, ran_told}
use Rattle.wot_machine.proofs.CommandsInLines.{still_turns, told_as, watched_told}
use Rattle.wot_machine.proofs.Due.{due_alone, due_paced}
use Rattle.wot_machine.proofs.Removals.{close_only, off_only}
use Rattle.wot_machine.proofs.dispatch.Inner.run_class.Goals as goal

-- ---- a command that leaves cursors and watches

pub run_state_command-requires-clause-read : goal.run_state_command-requires-clause-read
run_state_command-requires-clause-read g c = record {
  fit = rw c.in-State.is at c.requires.read.0;
  small = rw c.in-State.is at c.requires.read.1;
}

pub run_state_command-requires-clause-ready : goal.run_state_command-requires-clause-ready
run_state_command-requires-clause-ready g c = c.requires.ready

pub run_state_command-requires-clause-judging : goal.run_state_command-requires-clause-judging
run_state_command-requires-clause-judging g c = c.requires.judging

pub returns-in-State-clause-ran : goal.returns-in-State-clause-ran
returns-in-State-clause-ran g c =
    rw c.in-State.is
    (ran_told c.run_state_command.result c.without_move.result (rows_of c.args.policy.now) c.in-State.command c.args.self.now.engine
    c.run_state_command.new.engine
    (record { world = g.D.Shelf.world c.args.shelf.now; faults = g.D.Shelf.faults c.args.shelf.now })
    (record { world = g.D.Shelf.world c.run_state_command.new.shelf; faults = g.D.Shelf.faults c.run_state_command.new.shelf })
    c.args.self.now.cursors c.args.self.now.watches c.without_move.ensures.reported c.without_move.ensures.same
    c.run_state_command.ensures.changes.counted c.run_state_command.ensures.turned c.run_state_command.ensures.did)

pub returns-in-State-clause-directory : goal.returns-in-State-clause-directory
returns-in-State-clause-directory g c = record {
  untouched = rw c.in-State.is c.run_state_command.ensures.directory.untouched;
  entries = rw c.in-State.is
      (on_err_told c.run_state_command.result c.without_move.result _ c.without_move.ensures.same c.run_state_command.ensures.directory.entries);
  later = c.run_state_command.ensures.directory.later;
}

pub returns-in-State-clause-once : goal.returns-in-State-clause-once
returns-in-State-clause-once g c = record {
  standard = c.run_state_command.ensures.changes.standard;
  counted = c.run_state_command.ensures.changes.counted;
  turned = few_turns c.run_state_command.result (OfState c.in-State.command) c.args.self.now.engine c.run_state_command.new.engine
      c.run_state_command.ensures.turned c.run_state_command.ensures.kept;
  still = still_turns c.run_state_command.result (OfState c.in-State.command) c.args.self.now.engine c.run_state_command.new.engine
      c.run_state_command.ensures.turned c.run_state_command.ensures.kept;
}

pub returns-in-State-clause-anew : goal.returns-in-State-clause-anew
returns-in-State-clause-anew g c =
    rw c.in-State.is (on_ok_told c.run_state_command.result c.without_move.result _ c.without_move.ensures.same c.run_state_command.ensures.anew)

pub returns-in-State-clause-edges : goal.returns-in-State-clause-edges
returns-in-State-clause-edges g c =
    rw c.in-State.is (on_ok_told c.run_state_command.result c.without_move.result _ c.without_move.ensures.same c.run_state_command.ensures.edges)

pub returns-in-State-clause-quiet : goal.returns-in-State-clause-quiet
returns-in-State-clause-quiet g c =
    told_as c.run_state_command.result c.without_move.result
    (λ (reply : Reply). is_short reply ≡ false → StaysButMarks c.args.self.now.engine c.run_state_command.new.engine
    × (c.args.self.now.cursors ≡ c.args.self.now.cursors) × (c.args.self.now.watches ≡ c.args.self.now.watches))
    c.without_move.ensures.reported c.without_move.ensures.same
    (if_ok c.run_state_command.result _ _ (λ reply quiet long. (quiet long, refl, refl)) c.run_state_command.ensures.quiet)

pub returns-in-State-clause-kept : goal.returns-in-State-clause-kept
returns-in-State-clause-kept g c =
    kept_told c.run_state_command.result c.without_move.result c.args.self.now.engine c.run_state_command.new.engine c.args.self.now.cursors
    c.args.self.now.watches c.without_move.ensures.same c.run_state_command.ensures.kept

pub returns-in-State-clause-makes : goal.returns-in-State-clause-makes
returns-in-State-clause-makes g c =
    rw c.in-State.is
    (makes_for_as c.run_state_command.result c.without_move.result (λ done. sym c.without_move.ensures.same ∙ done) c.in-State.command
    c.args.self.now.engine c.run_state_command.new.engine c.args.self.now.steps.made c.run_state_command.new.steps.made c.run_state_command.ensures.makes)

pub returns-in-State-clause-asked : goal.returns-in-State-clause-asked
returns-in-State-clause-asked g c =
    rw c.in-State.is
    (asks_by_as c.run_state_command.result c.without_move.result (λ done. sym c.without_move.ensures.same ∙ done) (OfState c.in-State.command)
    (state_of c.args.self.now.engine) (state_of c.run_state_command.new.engine) c.args.policy.now c.run_state_command.new.policy
    c.run_state_command.ensures.asked)

pub returns-in-State-clause-judging : goal.returns-in-State-clause-judging
returns-in-State-clause-judging g c = c.run_state_command.ensures.judging

pub returns-in-State-clause-sure : goal.returns-in-State-clause-sure
returns-in-State-clause-sure g c = rw c.in-State.is (λ e. c.without_move.ensures.same ∙ c.run_state_command.ensures.sure e)

-- ---- a command of a cursor

pub returns-in-Cursor-clause-ran : goal.returns-in-Cursor-clause-ran
returns-in-Cursor-clause-ran g c =
    rw c.in-Cursor.is
    (paced_ran c.run_cursor_command.result (rows_of c.args.policy.now) (OfCursor c.in-Cursor.name c.in-Cursor.command)
    c.args.self.now.engine c.run_cursor_command.new.engine c.args.self.now.cursors c.run_cursor_command.new.cursors c.args.self.now.watches
    (record { world = g.D.Shelf.world c.args.shelf.now; faults = g.D.Shelf.faults c.args.shelf.now })
    refl c.run_cursor_command.ensures.stays c.run_cursor_command.ensures.paces)

pub returns-in-Cursor-clause-directory : goal.returns-in-Cursor-clause-directory
returns-in-Cursor-clause-directory g c =
    touches_none c.run_cursor_command.result (state_of c.args.self.now.engine) (use_by c.args.class) g.D.Shelf.world g.D.Shelf.faults
    c.args.shelf.now

pub returns-in-Cursor-clause-once : goal.returns-in-Cursor-clause-once
returns-in-Cursor-clause-once g c =
    runs_none c.args.self.now.engine c.run_cursor_command.new.engine c.requires.ready c.run_cursor_command.ensures.stays

pub returns-in-Cursor-clause-judging : goal.returns-in-Cursor-clause-judging
returns-in-Cursor-clause-judging g c =
    judging_still g.F.Fn c.args.policy.now c.args.self.now.engine.keyring c.run_cursor_command.new.engine.keyring
    c.run_cursor_command.ensures.stays.keyring c.requires.judging

pub returns-in-Cursor-clause-makes : goal.returns-in-Cursor-clause-makes
returns-in-Cursor-clause-makes g c = rw c.in-Cursor.is c.run_cursor_command.ensures.makes

pub returns-in-Cursor-clause-quiet : goal.returns-in-Cursor-clause-quiet
returns-in-Cursor-clause-quiet g c =
    if_ok c.run_cursor_command.result _ _ (λ drafted quiet long. (c.run_cursor_command.ensures.stays, quiet long, refl)) c.run_cursor_command.ensures.quiet

pub returns-in-Cursor-clause-sure : goal.returns-in-Cursor-clause-sure
returns-in-Cursor-clause-sure g c =
    rw c.in-Cursor.is (λ e. c.run_cursor_command.ensures.sure (close_only c.in-Cursor.name c.in-Cursor.command e))

-- ---- a command of a watch

pub returns-in-Watch-clause-ran : goal.returns-in-Watch-clause-ran
returns-in-Watch-clause-ran g c =
    rw c.in-Watch.is
    (watched_told c.watch.result c.without_move-in-Watch.result (rows_of c.args.policy.now)
    (OfWatch c.in-Watch.name c.in-Watch.command) c.args.self.now.engine c.watch.new.engine c.args.self.now.cursors
    c.args.self.now.watches c.watch.new.watches
    (record { world = g.D.Shelf.world c.args.shelf.now; faults = g.D.Shelf.faults c.args.shelf.now })
    c.without_move-in-Watch.ensures.reported c.without_move-in-Watch.ensures.same refl c.watch.ensures.stays
    (if_ok c.watch.result _ _ (λ reply sets. sets c.args.self.now.cursors) c.watch.ensures.sets))

pub returns-in-Watch-clause-directory : goal.returns-in-Watch-clause-directory
returns-in-Watch-clause-directory g c =
    touches_none c.without_move-in-Watch.result (state_of c.args.self.now.engine) (use_by c.args.class) g.D.Shelf.world
    g.D.Shelf.faults c.args.shelf.now

pub returns-in-Watch-clause-once : goal.returns-in-Watch-clause-once
returns-in-Watch-clause-once g c =
    runs_none c.args.self.now.engine c.watch.new.engine c.requires.ready c.watch.ensures.stays

pub returns-in-Watch-clause-judging : goal.returns-in-Watch-clause-judging
returns-in-Watch-clause-judging g c =
    judging_still g.F.Fn c.args.policy.now c.args.self.now.engine.keyring c.watch.new.engine.keyring
    c.watch.ensures.stays.keyring c.requires.judging

pub returns-in-Watch-clause-makes : goal.returns-in-Watch-clause-makes
returns-in-Watch-clause-makes g c =
    rw c.in-Watch.is
    (watch_makes_as c.watch.result c.without_move-in-Watch.result (λ done. sym c.without_move-in-Watch.ensures.same ∙ done)
    c.in-Watch.command c.args.self.now.engine c.watch.new.engine c.args.self.now.steps.made c.watch.new.steps.made
    c.watch.ensures.makes)

pub returns-in-Watch-clause-sure : goal.returns-in-Watch-clause-sure
returns-in-Watch-clause-sure g c =
    rw c.in-Watch.is
    (λ e. c.without_move-in-Watch.ensures.same ∙ c.watch.ensures.sure (off_only c.in-Watch.name c.in-Watch.command e))

-- ---- the move of a cursor

pub returns-in-State-clause-due : goal.returns-in-State-clause-due
returns-in-State-clause-due g c =
    due_alone c.run_state_command.result c.without_move.result (record {
      engine = c.run_state_command.new.engine;
      cursors = c.args.self.now.cursors;
      watches = c.args.self.now.watches;
      made = c.run_state_command.new.steps.made;
    }) c.without_move.ensures.reported c.without_move.ensures.same

pub returns-in-Cursor-clause-due : goal.returns-in-Cursor-clause-due
returns-in-Cursor-clause-due g c =
    due_paced c.run_cursor_command.result (OfCursor c.in-Cursor.name c.in-Cursor.command) c.args.self.now.engine c.run_cursor_command.new.engine
    c.args.self.now.cursors c.run_cursor_command.new.cursors c.args.self.now.watches c.run_cursor_command.new.steps.made refl c.run_cursor_command.ensures.stays
    c.run_cursor_command.ensures.moves c.run_cursor_command.ensures.paces

pub returns-in-Watch-clause-due : goal.returns-in-Watch-clause-due
returns-in-Watch-clause-due g c =
    due_alone c.watch.result c.without_move-in-Watch.result (record {
      engine = c.watch.new.engine;
      cursors = c.args.self.now.cursors;
      watches = c.watch.new.watches;
      made = c.watch.new.steps.made;
    }) c.without_move-in-Watch.ensures.reported c.without_move-in-Watch.ensures.same
