use Rattle.std.proofs.Common.{rules, ◌≡◌, ◌≤◌, ◌+◌, false, Option, Some, Result, Ok, refl, subst, sym, ◌∙◌}
use Rattle.wot_types.specs.declared.memory.Memory.{Memory}
use Rattle.wot_policy.specs.Kept.{rows_of}
use Rattle.wot_script.specs.Grammar.{command_of}
use Rattle.wot_script.specs.Replies.{is_short}
use Rattle.wot_plain.specs.declared.draft.DraftReply.{DraftReply}
use Rattle.wot_plain.specs.Lines.{command_in_line, is_silent}
use Rattle.wot_machine.specs.Machine.{Machine, StaysKept, kept, machine_of}
use Rattle.wot_plain.specs.Made.{LineMakes}
use Rattle.wot_plain.specs.Pacing.{settled}
use Rattle.wot_watch_commands.specs.Settled.{AreSettled}
use Rattle.wot_cache.specs.State.{StaysButMarks, state_of}
use Rattle.wot_command.specs.Asked.{LineAsks}
use Rattle.wot_command.specs.EdgeLines.{LineMarks}
use Rattle.wot_command.proofs.EdgeLines.{heard_marks}
use Rattle.wot_command.proofs.Lasting.{judging_still, touches_err, touches_none, touches_ok}
use Rattle.wot_command.proofs.PolicyAskedByLine.{asks_as, asks_heard}
use Rattle.wot_command.specs.Lasting.{CanCount, IsJudging, Touches}
use Rattle.wot_plain.proofs.Results.{any_err}
use Rattle.wot_plain.specs.Entry.{use_of}
use Rattle.wot_keyring_spec.specs.Import.{IsOneChange}
use Rattle.wot_machine.proofs.Unchanged.{unchanged}
use Rattle.wot_plain.proofs.EdgesMadeByLine.{line_makes_as, makes_heard}
use Rattle.wot_machine.proofs.CommandsInLines.{replied_long, replied_silent}
use Rattle.wot_watch_commands.proofs.WatchesSettled.{settled_told}
use Rattle.wot_machine.proofs.machine.Machine.reply.Goals as goal

pub returns-clause-makes : goal.returns-clause-makes
returns-clause-makes g c =
    let loud : is_silent c.args.line.now ≡ false = search rules in
    let done : Result (Option DraftReply) Memory = Ok (Some c.in_ok-drafted.drafted) in
    subst (λ (m : Machine). LineMakes done (command_in_line c.args.line.now) m.cursors m.engine c.answer.new.self.engine m.made
    c.answer.new.self.steps.made) c.self.view_is
    (makes_heard done c.args.line.now c.self.inside.inner.cursors c.self.inside.inner.engine c.answer.new.self.engine
    c.self.inside.inner.steps.made c.answer.new.self.steps.made
    c.if-line-gt-LONGEST.false loud
    (line_makes_as (Ok c.in_ok-drafted.drafted) done (λ ok. refl) (command_of c.args.line.now) c.self.inside.inner.cursors
    c.self.inside.inner.engine c.answer.new.self.engine
    c.self.inside.inner.steps.made c.answer.new.self.steps.made c.in_ok-drafted.ensures.makes))

pub returns-then-line-gt-LONGEST-clause-replied : goal.returns-then-line-gt-LONGEST-clause-replied
returns-then-line-gt-LONGEST-clause-replied g c =
    replied_long (rows_of c.args.policy.now) c.args.line.now c.args.self.now.engine c.args.self.now.cursors
    c.args.self.now.watches
    (record { world = g.D.Shelf.world c.args.shelf.now; faults = g.D.Shelf.faults c.args.shelf.now }) c.alone.result
    c.if-line-gt-LONGEST.true
    c.alone.ensures.reply c.alone.ensures.moved

pub returns-then-test_silent-clause-replied : goal.returns-then-test_silent-clause-replied
returns-then-test_silent-clause-replied g c =
    replied_silent (rows_of c.args.policy.now) c.args.line.now (kept c.args.self.now)
    (record { world = g.D.Shelf.world c.args.shelf.now; faults = g.D.Shelf.faults c.args.shelf.now })
    c.if-line-gt-LONGEST.false
    (sym c.test_silent.ensures.silent ∙ c.if-test_silent.true)

pub invariant_of-self : goal.invariant_of-self
invariant_of-self g c = (
  c.answer.ensures.once.standard,
  subst (AreSettled c.answer.new.self.engine c.answer.new.self.watches) (sym c.take-basis.ensures.after) tt,
)

pub invariant_of-self-2 : goal.invariant_of-self-2
invariant_of-self-2 g c =
    let old = c.self.inside.inner.engine in
    let new = c.answer.new.self.engine in
    let ran = c.in_ok-drafted.ensures.ran in (
      c.answer.ensures.once.standard,
      settled_told (rows_of c.args.policy.now) c.views_go_on.ensures.turned c.rests_on.ensures.later
          c.change_goes_on.ensures old new
          c.self.inside.inner.cursors (settled c.in_ok-drafted.drafted.moved c.answer.new.self.cursors)
          c.self.inside.inner.watches c.answer.new.self.watches
          (command_of c.args.line.now) ran.given c.in_ok-drafted.drafted.reply c.take-basis.result c.kept_on.result
          c.of-before.result.certificates c.of-before.result.changes c.of-before.result.revisions ran.answers
          c.answer.ensures.once.counted
          c.of-before.ensures.certificates c.of-before.ensures.changes c.of-before.ensures.revisions
          c.kept_on.ensures.same c.kept_on.ensures.more c.kept_on.ensures.none c.kept_on.ensures.counted
          (subst (AreSettled old c.self.inside.inner.watches) (sym c.take-basis.ensures.value) c.self.invariant.1),
    )

pub returns-clause-asked : goal.returns-clause-asked
returns-clause-asked g c =
    let loud : is_silent c.args.line.now ≡ false = search rules in
    let done : Result (Option DraftReply) Memory = Ok (Some c.in_ok-drafted.drafted) in
    subst (λ (m : Machine). LineAsks done (command_in_line c.args.line.now) (state_of m.engine)
    (state_of c.answer.new.self.engine) c.args.policy.now c.answer.new.policy) c.self.view_is
    (asks_heard done c.args.line.now (state_of c.self.inside.inner.engine) (state_of c.answer.new.self.engine)
    c.args.policy.now c.answer.new.policy
    c.if-line-gt-LONGEST.false loud
    (asks_as (Ok c.in_ok-drafted.drafted) done (λ ok. refl) (command_of c.args.line.now) (state_of c.self.inside.inner.engine)
    (state_of c.answer.new.self.engine)
    c.args.policy.now c.answer.new.policy c.in_ok-drafted.ensures.asked))

pub returns-clause-edges : goal.returns-clause-edges
returns-clause-edges g c =
    let loud : is_silent c.args.line.now ≡ false = search rules in
    subst (λ (m : Machine). LineMarks m.engine (command_in_line c.args.line.now)) c.self.view_is
    (heard_marks c.self.inside.inner.engine c.args.line.now c.if-line-gt-LONGEST.false loud c.in_ok-drafted.ensures.edges)

-- ---- what the parts are given

pub answer-requires-clause-ready : goal.answer-requires-clause-ready
answer-requires-clause-ready g c = record {
  standard = c.self.invariant.0;
  counts = subst (λ (m : Machine). CanCount m.engine) (sym c.self.view_is) c.requires.countable;
}

pub answer-requires-clause-judging : goal.answer-requires-clause-judging
answer-requires-clause-judging g c =
    subst (λ (m : Machine). IsJudging g.F.Fn c.args.policy.now m.engine.keyring) (sym c.self.view_is)
    c.requires.judging

-- ---- what they leave

pub returns-clause-directory : goal.returns-clause-directory
returns-clause-directory g c =
    let loud : is_silent c.args.line.now ≡ false = search rules in
    let done : Result (Option DraftReply) Memory = Ok (Some c.in_ok-drafted.drafted) in
    subst (λ (m : Machine). Touches done (state_of m.engine) (use_of (command_in_line c.args.line.now)) g.D.Shelf.world
    g.D.Shelf.faults c.args.shelf.now c.answer.new.shelf) c.self.view_is
    (touches_ok c.args.line.now (state_of c.self.inside.inner.engine) g.D.Shelf.world g.D.Shelf.faults
    c.args.shelf.now c.answer.new.shelf c.if-line-gt-LONGEST.false loud (Ok c.in_ok-drafted.drafted) (Some c.in_ok-drafted.drafted)
    c.in_ok-drafted.ensures.directory)

pub returns-in_err-drafted-clause-directory : goal.returns-in_err-drafted-clause-directory
returns-in_err-drafted-clause-directory g c =
    let loud : is_silent c.args.line.now ≡ false = search rules in
    subst (λ (m : Machine). Touches c.from_residual.result (state_of m.engine) (use_of (command_in_line c.args.line.now))
    g.D.Shelf.world g.D.Shelf.faults c.args.shelf.now c.answer.new.shelf) c.self.view_is
    (touches_err c.args.line.now (state_of c.self.inside.inner.engine) g.D.Shelf.world g.D.Shelf.faults
    c.args.shelf.now c.answer.new.shelf c.if-line-gt-LONGEST.false loud _ c.from_residual.result
    c.in_err-drafted.ensures.directory)

pub returns-clause-judging : goal.returns-clause-judging
returns-clause-judging g c = c.answer.ensures.judging

pub returns-in_err-drafted-clause-judging : goal.returns-in_err-drafted-clause-judging
returns-in_err-drafted-clause-judging g c = c.answer.ensures.judging

pub returns-clause-quiet : goal.returns-clause-quiet
returns-clause-quiet g c =
    subst (λ (m : Machine). is_short c.in_ok-drafted.drafted.reply ≡ false → StaysKept m (machine_of c.answer.new.self))
    c.self.view_is c.in_ok-drafted.ensures.quiet

pub returns-in_err-drafted-clause-kept : goal.returns-in_err-drafted-clause-kept
returns-in_err-drafted-clause-kept g c =
    any_err c.from_residual.result _ (subst (λ (m : Machine). StaysKept m (machine_of c.answer.new.self))
    c.self.view_is c.in_err-drafted.ensures.kept)

pub returns-clause-unchanged : goal.returns-clause-unchanged
returns-clause-unchanged g c =
    let new = c.answer.new.self.engine in
    subst (λ (m : Machine). state_of new ≡ state_of m.engine → StaysButMarks m.engine new) c.self.view_is
    (unchanged c.self.inside.inner.engine new c.answer.ensures.once.counted c.answer.ensures.once.still)

pub returns-clause-counted : goal.returns-clause-counted
returns-clause-counted g c =
    subst (λ (m : Machine). IsOneChange m.engine.keyring c.answer.new.self.engine.keyring) c.self.view_is
    c.answer.ensures.once.counted

pub returns-clause-turned : goal.returns-clause-turned
returns-clause-turned g c =
    subst (λ (m : Machine). c.answer.new.self.engine.revisions.count ≤ m.engine.revisions.count + 1) c.self.view_is
    c.answer.ensures.once.turned

pub returns-in_err-drafted-clause-unchanged : goal.returns-in_err-drafted-clause-unchanged
returns-in_err-drafted-clause-unchanged g c =
    let new = c.answer.new.self.engine in
    subst (λ (m : Machine). state_of new ≡ state_of m.engine → StaysButMarks m.engine new) c.self.view_is
    (unchanged c.self.inside.inner.engine new c.answer.ensures.once.counted c.answer.ensures.once.still)

pub returns-in_err-drafted-clause-counted : goal.returns-in_err-drafted-clause-counted
returns-in_err-drafted-clause-counted g c =
    subst (λ (m : Machine). IsOneChange m.engine.keyring c.answer.new.self.engine.keyring) c.self.view_is
    c.answer.ensures.once.counted

pub returns-in_err-drafted-clause-turned : goal.returns-in_err-drafted-clause-turned
returns-in_err-drafted-clause-turned g c =
    subst (λ (m : Machine). c.answer.new.self.engine.revisions.count ≤ m.engine.revisions.count + 1) c.self.view_is
    c.answer.ensures.once.turned

-- ---- a line that isn't read

pub returns-then-line-gt-LONGEST-clause-directory : goal.returns-then-line-gt-LONGEST-clause-directory
returns-then-line-gt-LONGEST-clause-directory g c =
    touches_none _ (state_of c.args.self.now.engine) (use_of (command_in_line c.args.line.now)) g.D.Shelf.world g.D.Shelf.faults
    c.args.shelf.now

pub returns-then-line-gt-LONGEST-clause-judging : goal.returns-then-line-gt-LONGEST-clause-judging
returns-then-line-gt-LONGEST-clause-judging g c =
    judging_still g.F.Fn c.args.policy.now c.args.self.now.engine.keyring c.args.self.now.engine.keyring refl
    c.requires.judging

pub returns-then-test_silent-clause-directory : goal.returns-then-test_silent-clause-directory
returns-then-test_silent-clause-directory g c =
    touches_none _ (state_of c.args.self.now.engine) (use_of (command_in_line c.args.line.now)) g.D.Shelf.world g.D.Shelf.faults
    c.args.shelf.now

pub returns-then-test_silent-clause-judging : goal.returns-then-test_silent-clause-judging
returns-then-test_silent-clause-judging g c =
    judging_still g.F.Fn c.args.policy.now c.args.self.now.engine.keyring c.args.self.now.engine.keyring refl
    c.requires.judging
