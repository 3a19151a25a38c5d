use Rattle.std.proofs.Common.{ℕ, Option, Result, Ok, refl, subst, sym}
use Rattle.wot_types.specs.declared.memory.Memory.{Memory}
use Rattle.wot_policy.specs.Kept.{rows_of}
use Rattle.wot_machine.specs.Machine.{kept}
use Rattle.wot_cache.specs.State.{Engine, state_of}
use Rattle.wot_plain.specs.declared.draft.DraftReply.{DraftReply}
use Rattle.wot_plain.specs.Entry.{use_of}
use Rattle.wot_plain.specs.Lines.{command_in_line}
use Rattle.wot_plain.specs.Made.{LineMakes}
use Rattle.wot_command.specs.CommandRun.{Seen}
use Rattle.wot_command.specs.Asked.{LineAsks}
use Rattle.wot_command.proofs.PolicyAskedByLine.{asks_as, asks_not}
use Rattle.wot_plain.proofs.EdgesMadeByLine.{line_makes_as}
use Rattle.wot_plain.proofs.Results.{any_err}
use Rattle.wot_command.proofs.DirectoryAfterFailure.{served_puts}
use Rattle.wot_command.proofs.Lasting.{judging_still, touches_none}
use Rattle.wot_command.specs.Lasting.{StaysJudging}
use Rattle.wot_machine.proofs.CommandsInLines.{passed, told_step}
use Rattle.wot_machine.proofs.machine.Machine.line.Goals as goal

pub reply-requires : goal.reply-requires
reply-requires g c = record { countable = c.requires.countable; judging = c.requires.judging }

pub returns-in-Some-clause-step : goal.returns-in-Some-clause-step
returns-in-Some-clause-step g c =
    let before : Seen = record {
      world = g.D.Shelf.world c.args.shelf.now;
      faults =
          g.D.Shelf.faults c.args.shelf.now;
    } in
    let after : Seen = record {
      world = g.D.Shelf.world c.reply.new.shelf;
      faults =
          g.D.Shelf.faults c.reply.new.shelf;
    } in
    told_step c.put.result (rows_of c.args.policy.now) c.args.line.now (kept c.args.self.now) before
    c.reply.new.self.engine c.reply.new.self.cursors
    c.reply.new.self.watches c.put.new.self.engine c.put.new.self.cursors c.put.new.self.watches after
    c.args.out.now.items c.reserve.new.self.items c.put.new.out.items c.in-Some.drafted
    (rw c.in-Some.is at c.in_ok-drafted.ensures.replied) c.put.ensures.engine c.put.ensures.watches c.put.ensures.settled
    c.reserve.ensures.items c.put.ensures.appended

pub returns-in-None-clause-step : goal.returns-in-None-clause-step
returns-in-None-clause-step g c =
    let before : Seen = record {
      world = g.D.Shelf.world c.args.shelf.now;
      faults =
          g.D.Shelf.faults c.args.shelf.now;
    } in
    let after : Seen = record {
      world = g.D.Shelf.world c.reply.new.shelf;
      faults =
          g.D.Shelf.faults c.reply.new.shelf;
    } in
    passed (rows_of c.args.policy.now) c.args.line.now (kept c.args.self.now) before (kept c.reply.new.self) after
    c.args.out.now.items c.reserve.new.self.items (rw c.in-None.is at c.in_ok-drafted.ensures.replied)
    c.reserve.ensures.items

pub returns-in-Some-clause-makes : goal.returns-in-Some-clause-makes
returns-in-Some-clause-makes g c =
    let done : Result (Option DraftReply) Memory = Ok c.in_ok-drafted.field-0 in
    let line = command_in_line c.args.line.now in
    let made : LineMakes done line c.args.self.now.cursors c.args.self.now.engine c.put.new.self.engine
    c.args.self.now.made c.put.new.self.made =
    subst (λ (e : Engine). LineMakes done line c.args.self.now.cursors c.args.self.now.engine e c.args.self.now.made
    c.put.new.self.made) (sym c.put.ensures.engine)
    (subst (λ (n : ℕ). LineMakes done line c.args.self.now.cursors c.args.self.now.engine c.reply.new.self.engine
    c.args.self.now.made n) (sym c.put.ensures.made) c.in_ok-drafted.ensures.makes) in
    line_makes_as done c.put.result (λ ok. refl) line c.args.self.now.cursors c.args.self.now.engine
    c.put.new.self.engine c.args.self.now.made c.put.new.self.made made

-- ---- the certificate directory

pub returns-in_err-reserve-clause-directory : goal.returns-in_err-reserve-clause-directory
returns-in_err-reserve-clause-directory g c =
    touches_none c.from_residual.result (state_of c.args.self.now.engine) (use_of (command_in_line c.args.line.now))
    g.D.Shelf.world g.D.Shelf.faults c.args.shelf.now

pub returns-in_err-drafted-clause-directory : goal.returns-in_err-drafted-clause-directory
returns-in_err-drafted-clause-directory g c = record {
  untouched = c.reply.ensures.directory.untouched;
  entries = any_err c.from_residual-in_err-drafted.result _ c.in_err-drafted.ensures.directory.entries;
  later = c.reply.ensures.directory.later;
}

pub returns-in-Some-clause-directory : goal.returns-in-Some-clause-directory
returns-in-Some-clause-directory g c =
    let replied = rw c.in-Some.is at c.in_ok-drafted.ensures.replied in
    record {
      untouched = c.reply.ensures.directory.untouched;
      entries = any_err c.put.result _ (served_puts (state_of c.args.self.now.engine) (use_of (command_in_line c.args.line.now))
          (g.D.Shelf.world c.args.shelf.now) replied.given (g.D.Shelf.world c.reply.new.shelf) replied.served);
      later = c.reply.ensures.directory.later;
    }

pub returns-in-None-clause-directory : goal.returns-in-None-clause-directory
returns-in-None-clause-directory g c = record {
  untouched = c.reply.ensures.directory.untouched;
  entries = tt;
  later = c.reply.ensures.directory.later;
}

-- ---- the policy

pub returns-in-Some-clause-asked : goal.returns-in-Some-clause-asked
returns-in-Some-clause-asked g c =
    let done : Result (Option DraftReply) Memory = Ok c.in_ok-drafted.field-0 in
    let line = command_in_line c.args.line.now in
    let asked : LineAsks done line (state_of c.args.self.now.engine) (state_of c.put.new.self.engine) c.args.policy.now
    c.reply.new.policy =
    subst (λ (e : Engine). LineAsks done line (state_of c.args.self.now.engine) (state_of e) c.args.policy.now
    c.reply.new.policy) (sym c.put.ensures.engine)
    c.in_ok-drafted.ensures.asked in
    asks_as done c.put.result (λ ok. refl) line (state_of c.args.self.now.engine) (state_of c.put.new.self.engine)
    c.args.policy.now c.reply.new.policy asked

pub returns-in-None-clause-asked : goal.returns-in-None-clause-asked
returns-in-None-clause-asked g c =
    let done : Result (Option DraftReply) Memory = Ok c.in_ok-drafted.field-0 in
    asks_as done _ (λ ok. refl) (command_in_line c.args.line.now) (state_of c.args.self.now.engine)
    (state_of c.reply.new.self.engine) c.args.policy.now c.reply.new.policy
    c.in_ok-drafted.ensures.asked

pub returns-in_err-reserve-clause-asked : goal.returns-in_err-reserve-clause-asked
returns-in_err-reserve-clause-asked g c = asks_not c.from_residual.result (command_in_line c.args.line.now)
    (state_of c.args.self.now.engine) c.args.policy.now

pub returns-in_err-reserve-clause-judging : goal.returns-in_err-reserve-clause-judging
returns-in_err-reserve-clause-judging g c =
    judging_still g.F.Fn c.args.policy.now c.args.self.now.engine.keyring c.args.self.now.engine.keyring refl
    c.requires.judging

pub returns-in-Some-clause-judging : goal.returns-in-Some-clause-judging
returns-in-Some-clause-judging g c =
    subst (λ (e : Engine). StaysJudging g.F.Fn c.args.policy.now c.reply.new.policy e.keyring)
    (sym c.put.ensures.engine) c.reply.ensures.judging

pub returns-in-None-clause-judging : goal.returns-in-None-clause-judging
returns-in-None-clause-judging g c = c.reply.ensures.judging

pub returns-in_err-drafted-clause-judging : goal.returns-in_err-drafted-clause-judging
returns-in_err-drafted-clause-judging g c = c.reply.ensures.judging
