use Rattle.std.proofs.Common.{rules, ◌≡◌, ◌≢◌, ◌^◌, ◌<◌, inl, inr, ℕ, ◌++◌, List, Ok, Err, refl, sym, ap, arith}
use Rattle.std.proofs.Common.{subst, ◌∙◌}
use Rattle.std.specs.Prelude.{IfSome}
use Rattle.wot_io.specs.Counts.{Rose}
use Rattle.wot_io.specs.Sink.{Becomes, GainsPrefix}
use Rattle.wot_io.specs.declared.lines.Line.TheVariants.{End, Long, Text}
use Rattle.wot_policy.specs.declared.rows.PolicyRows.{PolicyRows}
use Rattle.wot_policy.specs.Kept.{rows_of}
use Rattle.wot_keyring_spec.specs.Kept.{IsJudgedBy}
use Rattle.wot_command.specs.Asked.{LineAsks}
use Rattle.wot_plain.specs.Entry.{MayPut}
use Rattle.wot_machine.specs.Machine.{kept}
use Rattle.wot_engine.specs.RunAsks.{MayAsk, command_by, done}
use Rattle.wot_engine.specs.Ended.{Reached, IsBegun}
use Rattle.wot_engine.specs.Contents.{OnContents}
use Rattle.wot_engine.specs.Ends.{status_at}
use Rattle.wot_engine.specs.LineReply.{use_by}
use Rattle.wot_engine.specs.declared.run.Stop.TheVariants.{Memory, Read, TooMuch, Write}
use Rattle.wot_engine.proofs.HasAsked.{HasAsked-line, asks_between, asks_cut, asks_end, asks_nothing}
use Rattle.wot_engine.proofs.HasAsked.{asks_stop}
use Rattle.wot_engine.proofs.Contents.{weaker}
use Rattle.wot_engine.proofs.Does.{does_all, does_memory, does_much, does_read, does_write, takes_all, takes_much}
use Rattle.wot_engine.proofs.Does.{takes_some}
use Rattle.wot_engine.proofs.Held.{Held, Held-begun, Held-cut, Held-first, Held-most, Held-moves, Held-none}
use Rattle.wot_engine.proofs.Held.{Held-reached, Held-reached_cut, Held-reached_next, Held-reply, Held-written}
use Rattle.wot_engine.proofs.Held.{nothing_held}
use Rattle.wot_engine.proofs.Stops.{never, never_ok, rose_on, stopped}
use Rattle.wot_engine.proofs.LineReplies.{Answered-end, Answered-stop, Begun-here}
use Rattle.wot_engine.proofs.LineReplies.{First-reached}
use Rattle.wot_engine.proofs.LineReplies.{Left-end, Most-end, Most-stop, Stood}
use Rattle.wot_engine.proofs.Fresh.{answered, not_end, holds, no_fault, within, counted, turned, judged}
use Rattle.wot_engine.proofs.TakesAtMost.{ends_at, has_most, took_none, took_nothing, took_both, takes_at_most}
use Rattle.wot_engine.proofs.TakesAtMost.{takes_more}
use Rattle.wot_engine.proofs.TakesAtMost.{takes_most}
use Rattle.wot_engine.proofs.run.answer_lines.Goals.{After-next}
use Rattle.wot_engine.proofs.run.answer_lines.Goals as goal

-- ---- how far the run has come once the buffer is written

-- what was written, and what is buffered after it
flushed : (g : _) (c : After-next g)
    → Held (rows_of c.args.policy.now) (g.S.Source.left c.args.input.now) (g.K.Sink.written c.args.output.now)
    (g.D.Shelf.world c.args.shelf.now) c.lines.lines.held c.lines.lines.taken (g.S.Source.left c.lines.input)
    (g.K.Sink.written c.flush.new.output) c.flush.new.out.items (g.D.Shelf.world c.lines.shelf) (kept c.lines.machine)
flushed g c =
    Held-moves (rows_of c.args.policy.now) (g.S.Source.left c.args.input.now) (g.K.Sink.written c.args.output.now)
    (g.D.Shelf.world c.args.shelf.now) c.lines.lines.held c.lines.lines.taken (g.S.Source.left c.lines.input)
    (g.K.Sink.written c.lines.output) c.lines.out.items (g.D.Shelf.world c.lines.shelf) (kept c.lines.machine)
    (g.K.Sink.written c.flush.new.output) c.flush.new.out.items
    c.lines.invariant.held c.in_ok-flush.ensures.moves

-- if no line is available, nothing is buffered
stood : (g : _) (c : After-next g) → (c.next.result ≡ Ok Text → ⊥) → (c.next.result ≡ Ok Long → ⊥)
    → Stood (rows_of c.args.policy.now) (g.S.Source.left c.args.input.now) (g.K.Sink.written c.args.output.now)
    (g.D.Shelf.world c.args.shelf.now) c.lines.lines.held c.lines.lines.taken (g.S.Source.left c.lines.input)
    (g.K.Sink.written c.flush.new.output) (g.D.Shelf.world c.lines.shelf) (kept c.lines.machine)
stood g c text long =
    Held-none (rows_of c.args.policy.now) (g.S.Source.left c.args.input.now) (g.K.Sink.written c.args.output.now)
    (g.D.Shelf.world c.args.shelf.now) c.lines.lines.held c.lines.lines.taken (g.S.Source.left c.lines.input)
    (g.K.Sink.written c.flush.new.output) c.flush.new.out.items (g.D.Shelf.world c.lines.shelf) (kept c.lines.machine)
    (flushed g c) (nothing_held c.next.result c.lines.lines.held c.flush.new.out.items
    (c.next.ensures.at_hand c.lines.invariant.no_fault) text long c.in_ok-flush.ensures.none)

begun : (g : _) (c : After-next g)
    → OnContents (g.S.Source.left c.args.input.now) (g.K.Sink.written c.args.output.now) (g.D.Shelf.world
    c.args.shelf.now)
    (λ contents. IsBegun (rows_of c.args.policy.now) contents (g.K.Sink.written c.flush.new.output))
begun g c =
    Held-begun (rows_of c.args.policy.now) c.lines.invariant.law (g.S.Source.left c.args.input.now)
    (g.K.Sink.written c.args.output.now) (g.D.Shelf.world c.args.shelf.now) c.lines.lines.held c.lines.lines.taken
    (g.S.Source.left c.lines.input) (g.K.Sink.written c.flush.new.output) c.flush.new.out.items
    (g.D.Shelf.world c.lines.shelf) (kept c.lines.machine) (flushed g c)

reached : (g : _) (c : After-next g)
    → OnContents (g.S.Source.left c.args.input.now) (g.K.Sink.written c.args.output.now) (g.D.Shelf.world
    c.args.shelf.now)
    (λ contents. Reached (rows_of c.args.policy.now) contents (g.K.Sink.written c.flush.new.output) (g.D.Shelf.world
    c.args.shelf.now) (g.D.Shelf.world c.lines.shelf))
reached g c =
    Held-reached (rows_of c.args.policy.now) (g.S.Source.left c.args.input.now) (g.K.Sink.written c.args.output.now)
    (g.D.Shelf.world c.args.shelf.now) c.lines.lines.held c.lines.lines.taken (g.S.Source.left c.lines.input)
    (g.K.Sink.written c.flush.new.output) c.flush.new.out.items (g.D.Shelf.world c.lines.shelf) (kept c.lines.machine)
    (flushed g c)

-- ---- a write failed

pub returns-in_err-flush-clause-runs : goal.returns-in_err-flush-clause-runs
returns-in_err-flush-clause-runs g c =
    record {
      does =
          does_write (rows_of c.args.policy.now) _ _ _ c.from_residual.result (stopped
          c.from_residual.result
          Write c.from_residual.ensures.1)
          (Held-cut (rows_of c.args.policy.now) c.lines.invariant.law (g.S.Source.left c.args.input.now)
          (g.K.Sink.written c.args.output.now) (g.D.Shelf.world c.args.shelf.now) c.lines.lines.held c.lines.lines.taken
          (g.S.Source.left c.lines.input) (g.K.Sink.written c.lines.output) c.lines.out.items (g.D.Shelf.world c.lines.shelf)
          (kept c.lines.machine) (g.K.Sink.written c.flush.new.output) c.lines.invariant.held c.in_err-flush.ensures.cut)
          (Held-reached_cut (rows_of c.args.policy.now) (g.S.Source.left c.args.input.now) (g.K.Sink.written
          c.args.output.now)
          (g.D.Shelf.world c.args.shelf.now) c.lines.lines.held c.lines.lines.taken (g.S.Source.left c.lines.input)
          (g.K.Sink.written c.lines.output) c.lines.out.items (g.D.Shelf.world c.lines.shelf) (kept c.lines.machine)
          (g.K.Sink.written c.flush.new.output) c.lines.invariant.held c.in_err-flush.ensures.cut)
          ((Held-most (rows_of c.args.policy.now) c.lines.invariant.law (g.S.Source.left c.args.input.now)
          (g.K.Sink.written c.args.output.now) (g.D.Shelf.world c.args.shelf.now) c.lines.lines.held c.lines.lines.taken
          (g.S.Source.left c.lines.input) (g.K.Sink.written c.lines.output) c.lines.out.items (g.D.Shelf.world c.lines.shelf)
          (kept c.lines.machine) (g.K.Sink.written c.flush.new.output) (g.S.Source.left c.lines.input) c.lines.lines.taken
          c.lines.invariant.held c.in_err-flush.ensures.cut (took_none (g.S.Source.left c.lines.input) c.lines.lines.taken)));
      takes =
          takes_some _ c.from_residual.result Write (stopped c.from_residual.result Write
          c.from_residual.ensures.1) tt
          (takes_at_most (g.S.Source.left c.args.input.now)
          (g.S.Source.left c.lines.input) c.lines.lines.taken c.lines.invariant.took c.lines.invariant.within);
      asked =
          asks_between (rows_of c.args.policy.now) c.args.policy.now (g.D.Shelf.world c.args.shelf.now)
          (status_at c.from_residual.result) (g.S.Source.left c.args.input.now) (g.K.Sink.written
          c.args.output.now)
          c.lines.lines.held c.lines.lines.taken (g.S.Source.left c.lines.input) (g.D.Shelf.world c.lines.shelf)
          (kept c.lines.machine) c.lines.policy (g.S.Source.left c.lines.input)
          (inl (ap status_at (stopped c.from_residual.result Write c.from_residual.ensures.1)))
          c.lines.invariant.asked;
      faithful = c.lines.invariant.faithful;
      rows = c.lines.invariant.rows;
    }

pub returns-in_err-flush-clause-source : goal.returns-in_err-flush-clause-source
returns-in_err-flush-clause-source g c e =
    absurd (never c.from_residual.result Write Read (stopped c.from_residual.result Write
    c.from_residual.ensures.1) tt
    e)

pub returns-in_err-flush-clause-sink : goal.returns-in_err-flush-clause-sink
returns-in_err-flush-clause-sink g c e =
    rose_on (g.K.Sink.faults c.args.output.now) (g.K.Sink.faults c.lines.output) (g.K.Sink.faults c.flush.new.output)
    c.lines.invariant.sink c.flush.ensures.later c.in_err-flush.ensures.cause

-- ---- no line is left

pub returns-in-Ok-End-clause-runs : goal.returns-in-Ok-End-clause-runs
returns-in-Ok-End-clause-runs g c =
    record {
      does =
          let after = (goal.at.returns-in-Ok-End-clause-runs g c).After-next in
          let stands = stood g after (λ e. absurd (cc (e, c.in-Ok-End.is, c.in-Ok-End.field-0-is)))
          (λ e. absurd (cc (e, c.in-Ok-End.is, c.in-Ok-End.field-0-is))) in
          does_all (rows_of c.args.policy.now) _ _ _ _ tt refl
          (Answered-end (rows_of c.args.policy.now) (g.S.Source.left c.args.input.now) (g.K.Sink.written c.args.output.now)
          (g.D.Shelf.world c.args.shelf.now) c.lines.lines (g.S.Source.left c.lines.input)
          (g.K.Sink.written c.flush.new.output) (g.D.Shelf.world c.lines.shelf) (kept c.lines.machine) c.next.new.self
          (g.S.Source.left c.next.new.from)
          stands
          (rw c.in-Ok-End.field-0-is at c.in-Ok-End.ensures.ok))
          (Left-end (rows_of c.args.policy.now) (g.S.Source.left c.args.input.now) (g.K.Sink.written c.args.output.now)
          (g.D.Shelf.world c.args.shelf.now) c.lines.lines (g.S.Source.left c.lines.input)
          (g.K.Sink.written c.flush.new.output) (g.D.Shelf.world c.lines.shelf) (kept c.lines.machine) c.next.new.self
          (g.S.Source.left c.next.new.from)
          stands
          (rw c.in-Ok-End.field-0-is at c.in-Ok-End.ensures.ok))
          (begun g after) (reached g after)
          ((Most-end (rows_of c.args.policy.now) (g.S.Source.left c.args.input.now) (g.K.Sink.written c.args.output.now)
          (g.D.Shelf.world c.args.shelf.now) c.lines.lines (g.S.Source.left c.lines.input)
          (g.K.Sink.written c.flush.new.output) (g.D.Shelf.world c.lines.shelf) (kept c.lines.machine) c.next.new.self
          (g.S.Source.left c.next.new.from)
          stands
          (rw c.in-Ok-End.field-0-is at c.in-Ok-End.ensures.ok)));
      takes =
          takes_all _ _ tt refl
          (ends_at (g.S.Source.left c.args.input.now) (g.S.Source.left c.lines.input) (g.S.Source.left c.next.new.from)
          c.lines.lines.taken c.lines.lines c.next.new.self
          c.lines.invariant.took (rw c.in-Ok-End.field-0-is at c.in-Ok-End.ensures.ok))
          (takes_more (g.S.Source.left c.args.input.now) (g.S.Source.left c.lines.input) (g.S.Source.left c.next.new.from)
          c.lines.lines.taken c.next.new.self.taken c.lines.invariant.took c.next.ensures.took c.next.ensures.within);
      asked =
          asks_end (rows_of c.args.policy.now) c.args.policy.now (g.D.Shelf.world c.args.shelf.now)
          (g.S.Source.left c.args.input.now) (g.K.Sink.written c.args.output.now) c.lines.lines
          (g.S.Source.left c.lines.input) (g.D.Shelf.world c.lines.shelf) (kept c.lines.machine) c.lines.policy
          c.next.new.self (g.S.Source.left c.next.new.from)
          c.lines.invariant.asked (rw c.in-Ok-End.field-0-is at c.in-Ok-End.ensures.ok);
      faithful = c.lines.invariant.faithful;
      rows = c.lines.invariant.rows;
    }

pub returns-in-Ok-End-clause-source : goal.returns-in-Ok-End-clause-source
returns-in-Ok-End-clause-source g c e =
    absurd (never_ok _ tt Read refl e)

pub returns-in-Ok-End-clause-sink : goal.returns-in-Ok-End-clause-sink
returns-in-Ok-End-clause-sink g c e =
    absurd (never_ok _ tt Write refl e)

-- ---- a read failed

pub returns-in-Err-ReadFault-clause-runs : goal.returns-in-Err-ReadFault-clause-runs
returns-in-Err-ReadFault-clause-runs g c =
    record {
      does =
          let after = (goal.at.returns-in-Err-ReadFault-clause-runs g c).After-next in
          let lt : c.next.new.self.taken < 2 ^ 30 = (c.in-Err-ReadFault.ensures.first c.lines.invariant.no_fault).low
          (ap Err c.in-Err-ReadFault.field-0-is) in
          let stands = stood g after (λ e. absurd (cc (e, c.in-Err-ReadFault.is))) (λ e. absurd (cc (
            e,
            c.in-Err-ReadFault.is,
          ))) in
          does_read (rows_of c.args.policy.now) _ _ _ _ refl (begun g after) (reached g after)
          (weaker (g.S.Source.left c.args.input.now) (g.K.Sink.written c.args.output.now) (g.D.Shelf.world c.args.shelf.now)
          _ _ (λ contents both. both.0)
          (Answered-stop (rows_of c.args.policy.now) (g.S.Source.left c.args.input.now) (g.K.Sink.written c.args.output.now)
          (g.D.Shelf.world c.args.shelf.now) c.lines.lines.held c.lines.lines.taken (g.S.Source.left c.lines.input)
          (g.K.Sink.written c.flush.new.output) (g.D.Shelf.world c.lines.shelf) (kept c.lines.machine)
          (g.S.Source.left c.next.new.from) c.next.new.self.taken
          stands
          (c.in-Err-ReadFault.ensures.first c.lines.invariant.no_fault).stops))
          ((Most-stop (rows_of c.args.policy.now) (g.S.Source.left c.args.input.now) (g.K.Sink.written c.args.output.now)
          (g.D.Shelf.world c.args.shelf.now) c.lines.lines.held c.lines.lines.taken (g.S.Source.left c.lines.input)
          (g.K.Sink.written c.flush.new.output) (g.D.Shelf.world c.lines.shelf) (kept c.lines.machine)
          (g.S.Source.left c.next.new.from) c.next.new.self.taken
          stands
          (c.in-Err-ReadFault.ensures.first c.lines.invariant.no_fault).stops lt));
      takes =
          takes_some _ _ Read refl tt
          (takes_more (g.S.Source.left c.args.input.now) (g.S.Source.left c.lines.input) (g.S.Source.left c.next.new.from)
          c.lines.lines.taken c.next.new.self.taken c.lines.invariant.took c.next.ensures.took c.next.ensures.within);
      asked =
          asks_stop (rows_of c.args.policy.now) c.args.policy.now (g.D.Shelf.world c.args.shelf.now) 3
          (g.S.Source.left c.args.input.now) (g.K.Sink.written c.args.output.now) c.lines.lines.held c.lines.lines.taken
          (g.S.Source.left c.lines.input) (g.D.Shelf.world c.lines.shelf) (kept c.lines.machine) c.lines.policy
          (g.S.Source.left c.next.new.from) c.next.new.self.taken
          (inl refl) c.lines.invariant.asked (c.in-Err-ReadFault.ensures.first c.lines.invariant.no_fault).stops;
      faithful = c.lines.invariant.faithful;
      rows = c.lines.invariant.rows;
    }

pub returns-in-Err-ReadFault-clause-source : goal.returns-in-Err-ReadFault-clause-source
returns-in-Err-ReadFault-clause-source g c e =
    let rose : Rose (g.S.Source.faults c.lines.input) (g.S.Source.faults c.next.new.from) =
    (rw c.in-Err-ReadFault.field-0-is at c.in-Err-ReadFault.ensures.cause) c.lines.invariant.no_fault refl in
    rose_on (g.S.Source.faults c.args.input.now) (g.S.Source.faults c.lines.input) (g.S.Source.faults c.next.new.from)
    c.lines.invariant.source c.next.ensures.later rose

pub returns-in-Err-ReadFault-clause-sink : goal.returns-in-Err-ReadFault-clause-sink
returns-in-Err-ReadFault-clause-sink g c e =
    absurd (never _ Read Write refl tt e)

-- ---- 2 ^ 30 octets were taken

pub returns-in-Err-TooMuch-clause-runs : goal.returns-in-Err-TooMuch-clause-runs
returns-in-Err-TooMuch-clause-runs g c =
    record {
      does =
          let after = (goal.at.returns-in-Err-TooMuch-clause-runs g c).After-next in
          let n : c.next.new.self.taken ≡ 2 ^ 30 = (c.in-Err-TooMuch.ensures.first c.lines.invariant.no_fault).too_much
          (ap Err c.in-Err-TooMuch.field-0-is) in
          let stands = stood g after (λ e. absurd (cc (e, c.in-Err-TooMuch.is))) (λ e. absurd (cc (e, c.in-Err-TooMuch.is)))
          in
          does_much (rows_of c.args.policy.now) _ _ _ _ refl (begun g after) (reached g after)
          (weaker (g.S.Source.left c.args.input.now) (g.K.Sink.written c.args.output.now) (g.D.Shelf.world c.args.shelf.now)
          _ _ (λ contents both. both.1 n)
          (Answered-stop (rows_of c.args.policy.now) (g.S.Source.left c.args.input.now) (g.K.Sink.written c.args.output.now)
          (g.D.Shelf.world c.args.shelf.now) c.lines.lines.held c.lines.lines.taken (g.S.Source.left c.lines.input)
          (g.K.Sink.written c.flush.new.output) (g.D.Shelf.world c.lines.shelf) (kept c.lines.machine)
          (g.S.Source.left c.next.new.from) c.next.new.self.taken
          stands
          (c.in-Err-TooMuch.ensures.first c.lines.invariant.no_fault).stops));
      takes =
          let n : c.next.new.self.taken ≡ 2 ^ 30 = (c.in-Err-TooMuch.ensures.first c.lines.invariant.no_fault).too_much
          (ap Err c.in-Err-TooMuch.field-0-is) in
          let took = took_both (g.S.Source.left c.args.input.now) (g.S.Source.left c.lines.input)
          (g.S.Source.left c.next.new.from) 0 c.lines.lines.taken c.next.new.self.taken c.lines.invariant.took
          c.next.ensures.took in
          takes_much _ _ refl
          (has_most (g.S.Source.left c.args.input.now) (g.S.Source.left c.next.new.from) c.next.new.self.taken took n)
          (takes_most (g.S.Source.left c.args.input.now) (g.S.Source.left c.next.new.from) c.next.new.self.taken took n)
          (takes_more (g.S.Source.left c.args.input.now) (g.S.Source.left c.lines.input) (g.S.Source.left c.next.new.from)
          c.lines.lines.taken c.next.new.self.taken c.lines.invariant.took c.next.ensures.took c.next.ensures.within);
      asked =
          asks_stop (rows_of c.args.policy.now) c.args.policy.now (g.D.Shelf.world c.args.shelf.now) 6
          (g.S.Source.left c.args.input.now) (g.K.Sink.written c.args.output.now) c.lines.lines.held c.lines.lines.taken
          (g.S.Source.left c.lines.input) (g.D.Shelf.world c.lines.shelf) (kept c.lines.machine) c.lines.policy
          (g.S.Source.left c.next.new.from) c.next.new.self.taken
          (inr refl) c.lines.invariant.asked (c.in-Err-TooMuch.ensures.first c.lines.invariant.no_fault).stops;
      faithful = c.lines.invariant.faithful;
      rows = c.lines.invariant.rows;
    }

pub returns-in-Err-TooMuch-clause-source : goal.returns-in-Err-TooMuch-clause-source
returns-in-Err-TooMuch-clause-source g c e =
    absurd (never _ TooMuch Read refl tt e)

pub returns-in-Err-TooMuch-clause-sink : goal.returns-in-Err-TooMuch-clause-sink
returns-in-Err-TooMuch-clause-sink g c e =
    absurd (never _ TooMuch Write refl tt e)

-- ---- a line is read

pub lines-preserved : goal.lines-preserved
lines-preserved g c =
    let replies = answered (rows_of c.lines.policy) (rows_of c.args.policy.now) c.in-Ok.line c.text.result.now
    c.next.new.self.text (kept c.lines.machine) (g.D.Shelf.world c.lines.shelf) c.flush.new.out.items
    (kept c.reply_to.new.machine) (g.D.Shelf.world c.reply_to.new.shelf) c.reply_to.new.out.items c.lines.invariant.rows
    c.text.ensures c.in-Ok-reply_to.ensures.replies in
    record {
      law = c.lines.invariant.law;
      held = Held-reply (rows_of c.args.policy.now) (g.S.Source.left c.args.input.now)
          (g.K.Sink.written c.args.output.now) (g.D.Shelf.world c.args.shelf.now) c.lines.lines
          (g.S.Source.left c.lines.input) (g.K.Sink.written c.flush.new.output) c.flush.new.out.items
          (g.D.Shelf.world c.lines.shelf) (kept c.lines.machine) c.next.new.self (g.S.Source.left c.next.new.from)
          (g.D.Shelf.world c.reply_to.new.shelf) (kept c.reply_to.new.machine) c.in-Ok.line replies.octets
          c.reply_to.new.out.items (flushed g (goal.at.lines-preserved g c).After-next)
          c.in-Ok.ensures.ok replies.replies replies.behind;
      no_fault = c.in-Ok.ensures.well.1;
      took = took_both (g.S.Source.left c.args.input.now) (g.S.Source.left c.lines.input)
          (g.S.Source.left c.next.new.from) 0 c.lines.lines.taken c.next.new.self.taken c.lines.invariant.took
          c.next.ensures.took;
      within = c.next.ensures.within;
      source = omega (arith, c.next.ensures.later, c.lines.invariant.source);
      sink = omega (arith, c.flush.ensures.later, c.lines.invariant.sink);
      changes = omega (
        arith,
        c.reply_to.ensures.counted,
        c.in-Ok.ensures.shorter (not_end (rows_of c.args.policy.now) c.in-Ok.line c.next.new.self.text
            (kept c.lines.machine) (g.D.Shelf.world c.lines.shelf) replies.octets (kept c.reply_to.new.machine)
            (g.D.Shelf.world c.reply_to.new.shelf) replies.replies),
        c.lines.invariant.changes,
        c.next.ensures.within,
        c.lines.invariant.within,
      );
      revisions = omega (
        arith,
        c.reply_to.ensures.turned,
        c.in-Ok.ensures.shorter (not_end (rows_of c.args.policy.now) c.in-Ok.line c.next.new.self.text
            (kept c.lines.machine) (g.D.Shelf.world c.lines.shelf) replies.octets (kept c.reply_to.new.machine)
            (g.D.Shelf.world c.reply_to.new.shelf) replies.replies),
        c.lines.invariant.revisions,
        c.next.ensures.within,
        c.lines.invariant.within,
      );
      judged = subst (λ (r : PolicyRows). IsJudgedBy r c.reply_to.new.machine.engine.keyring) c.lines.invariant.rows
          c.reply_to.ensures.judged;
      rows = c.reply_to.ensures.rows ∙ c.lines.invariant.rows;
      faithful = c.reply_to.ensures.faithful;
      asked = HasAsked-line (rows_of c.args.policy.now) c.args.policy.now (g.D.Shelf.world c.args.shelf.now)
          (g.S.Source.left c.args.input.now) (g.K.Sink.written c.args.output.now)
          c.lines.lines (g.S.Source.left c.lines.input) (g.D.Shelf.world c.lines.shelf) (kept c.lines.machine)
          c.lines.policy c.next.new.self (g.S.Source.left c.next.new.from)
          (g.D.Shelf.world c.reply_to.new.shelf) (kept c.reply_to.new.machine) c.reply_to.new.policy c.in-Ok.line
          replies.octets c.lines.invariant.asked c.in-Ok.ensures.ok replies.replies
          (subst (λ (x : List ℕ). LineAsks done (command_by c.in-Ok.line x) (kept c.lines.machine).state
          (kept c.reply_to.new.machine).state c.lines.policy c.reply_to.new.policy) c.text.ensures
          c.in-Ok-reply_to.ensures.asked);
    }

pub lines-smaller : goal.lines-smaller
lines-smaller g c =
    let replies = answered (rows_of c.lines.policy) (rows_of c.args.policy.now) c.in-Ok.line c.text.result.now
    c.next.new.self.text (kept c.lines.machine) (g.D.Shelf.world c.lines.shelf) c.flush.new.out.items
    (kept c.reply_to.new.machine) (g.D.Shelf.world c.reply_to.new.shelf) c.reply_to.new.out.items c.lines.invariant.rows
    c.text.ensures c.in-Ok-reply_to.ensures.replies in
    omega (
      arith,
      c.in-Ok.ensures.shorter (not_end (rows_of c.args.policy.now) c.in-Ok.line c.next.new.self.text
          (kept c.lines.machine) (g.D.Shelf.world c.lines.shelf) replies.octets (kept c.reply_to.new.machine)
          (g.D.Shelf.world c.reply_to.new.shelf) replies.replies),
      c.next.ensures.within,
      c.lines.invariant.within,
    )

pub reply_to-requires-clause-countable : goal.reply_to-requires-clause-countable
reply_to-requires-clause-countable g c = record {
  changes = omega (arith, c.lines.invariant.changes);
  revisions = omega (arith, c.lines.invariant.revisions);
}

pub reply_to-requires-clause-judging : goal.reply_to-requires-clause-judging
reply_to-requires-clause-judging g c = record {
  judged = subst (λ (r : PolicyRows). IsJudgedBy r c.lines.machine.engine.keyring) (sym c.lines.invariant.rows)
      c.lines.invariant.judged;
  faithful = c.lines.invariant.faithful;
}

-- ---- out of memory at a line, and the write that follows failed

pub returns-in_err-write_all-clause-runs : goal.returns-in_err-write_all-clause-runs
returns-in_err-write_all-clause-runs g c =
    record {
      does =
          does_write (rows_of c.args.policy.now) _ _ _ c.from_residual-in_err-write_all.result (stopped
          c.from_residual-in_err-write_all.result Write c.from_residual-in_err-write_all.ensures.1)
          (Held-cut (rows_of c.args.policy.now) c.lines.invariant.law (g.S.Source.left c.args.input.now)
          (g.K.Sink.written c.args.output.now) (g.D.Shelf.world c.args.shelf.now) c.lines.lines.held c.lines.lines.taken
          (g.S.Source.left c.lines.input) (g.K.Sink.written c.flush.new.output) c.flush.new.out.items
          (g.D.Shelf.world c.lines.shelf) (kept c.lines.machine) (g.K.Sink.written c.write_all.new.to)
          (flushed g (goal.at.returns-in_err-write_all-clause-runs g c).After-next)
          (subst (λ (x : List ℕ). IfSome (g.K.Sink.written c.flush.new.output)
          (λ old. GainsPrefix old (g.K.Sink.written c.write_all.new.to) x))
          (c.deref.ensures.value ∙ c.in_default.ensures.kept) c.in_err-write_all.ensures.err))
          (let some : c.in-Ok.line ≢ End = search rules in
          let m : MayPut (kept c.lines.machine).state (use_by c.in-Ok.line c.next.new.self.text)
          (g.D.Shelf.world c.lines.shelf) (g.D.Shelf.world c.reply_to.new.shelf) =
          subst (λ (x : List ℕ). MayPut (kept c.lines.machine).state (use_by c.in-Ok.line x) (g.D.Shelf.world c.lines.shelf)
          (g.D.Shelf.world c.reply_to.new.shelf)) c.text.ensures c.in_default.ensures.entries in
          Held-reached_next (rows_of c.args.policy.now) (g.S.Source.left c.args.input.now)
          (g.K.Sink.written c.args.output.now) (g.D.Shelf.world c.args.shelf.now) c.lines.lines
          (g.S.Source.left c.lines.input) (g.K.Sink.written c.flush.new.output) c.flush.new.out.items
          (g.D.Shelf.world c.lines.shelf) (kept c.lines.machine) (g.K.Sink.written c.write_all.new.to) c.next.new.self
          (g.S.Source.left c.next.new.from) (g.D.Shelf.world c.reply_to.new.shelf) c.in-Ok.line
          (flushed g (goal.at.returns-in_err-write_all-clause-runs g c).After-next)
          (subst (λ (x : List ℕ). IfSome (g.K.Sink.written c.flush.new.output)
          (λ old. GainsPrefix old (g.K.Sink.written c.write_all.new.to) x))
          (c.deref.ensures.value ∙ c.in_default.ensures.kept) c.in_err-write_all.ensures.err)
          c.in-Ok.ensures.ok some m)
          ((Held-most (rows_of c.args.policy.now) c.lines.invariant.law (g.S.Source.left c.args.input.now)
          (g.K.Sink.written c.args.output.now) (g.D.Shelf.world c.args.shelf.now) c.lines.lines.held c.lines.lines.taken
          (g.S.Source.left c.lines.input) (g.K.Sink.written c.flush.new.output) c.flush.new.out.items
          (g.D.Shelf.world c.lines.shelf) (kept c.lines.machine) (g.K.Sink.written c.write_all.new.to)
          (g.S.Source.left c.next.new.from) c.next.new.self.taken
          (flushed g (goal.at.returns-in_err-write_all-clause-runs g c).After-next)
          (subst (λ (x : List ℕ). IfSome (g.K.Sink.written c.flush.new.output)
          (λ old. GainsPrefix old (g.K.Sink.written c.write_all.new.to) x))
          (c.deref.ensures.value ∙ c.in_default.ensures.kept) c.in_err-write_all.ensures.err) c.next.ensures.took));
      takes =
          takes_some _ c.from_residual-in_err-write_all.result Write
          (stopped c.from_residual-in_err-write_all.result Write c.from_residual-in_err-write_all.ensures.1) tt
          (takes_more (g.S.Source.left c.args.input.now) (g.S.Source.left c.lines.input) (g.S.Source.left c.next.new.from)
          c.lines.lines.taken c.next.new.self.taken c.lines.invariant.took c.next.ensures.took c.next.ensures.within);
      asked =
          let some : c.in-Ok.line ≢ End = search rules in
          asks_cut (rows_of c.args.policy.now) c.args.policy.now (g.D.Shelf.world c.args.shelf.now)
          (status_at c.from_residual-in_err-write_all.result) (g.S.Source.left c.args.input.now)
          (g.K.Sink.written c.args.output.now) c.lines.lines (g.S.Source.left c.lines.input) (g.D.Shelf.world c.lines.shelf)
          (kept c.lines.machine) c.lines.policy c.reply_to.new.policy c.next.new.self (g.S.Source.left c.next.new.from)
          c.in-Ok.line
          (inl (ap status_at (stopped c.from_residual-in_err-write_all.result Write
          c.from_residual-in_err-write_all.ensures.1)))
          c.lines.invariant.asked c.in-Ok.ensures.ok some
          (subst (λ (x : List ℕ). MayAsk (command_by c.in-Ok.line x) c.lines.policy c.reply_to.new.policy) c.text.ensures
          c.in_default.ensures.may_ask);
      faithful = c.reply_to.ensures.faithful;
      rows = c.reply_to.ensures.rows ∙ c.lines.invariant.rows;
    }

pub returns-in_err-write_all-clause-source : goal.returns-in_err-write_all-clause-source
returns-in_err-write_all-clause-source g c e =
    absurd (never c.from_residual-in_err-write_all.result Write Read
    (stopped c.from_residual-in_err-write_all.result Write c.from_residual-in_err-write_all.ensures.1) tt e)

pub returns-in_err-write_all-clause-sink : goal.returns-in_err-write_all-clause-sink
returns-in_err-write_all-clause-sink g c e =
    rose_on (g.K.Sink.faults c.args.output.now) (g.K.Sink.faults c.flush.new.output)
    (g.K.Sink.faults c.write_all.new.to)
    (omega (arith, c.lines.invariant.sink, c.flush.ensures.later)) c.write_all.ensures.later
    c.in_err-write_all.ensures.cause

-- ---- out of memory at a line

pub returns-in_default-clause-runs : goal.returns-in_default-clause-runs
returns-in_default-clause-runs g c =
    record {
      does =
          let some : c.in-Ok.line ≢ End = search rules in
          let m : MayPut (kept c.lines.machine).state (use_by c.in-Ok.line c.next.new.self.text)
          (g.D.Shelf.world c.lines.shelf) (g.D.Shelf.world c.reply_to.new.shelf) =
          subst (λ (x : List ℕ). MayPut (kept c.lines.machine).state (use_by c.in-Ok.line x) (g.D.Shelf.world c.lines.shelf)
          (g.D.Shelf.world c.reply_to.new.shelf)) c.text.ensures c.in_default.ensures.entries in
          let first = Held-first (rows_of c.args.policy.now) (g.S.Source.left c.args.input.now) (g.K.Sink.written
          c.args.output.now)
          (g.D.Shelf.world c.args.shelf.now) c.lines.lines (g.S.Source.left c.lines.input)
          (g.K.Sink.written c.flush.new.output) c.flush.new.out.items (g.D.Shelf.world c.lines.shelf) (kept c.lines.machine)
          (g.K.Sink.written c.write_all.new.to) c.next.new.self (g.S.Source.left c.next.new.from)
          (g.D.Shelf.world c.reply_to.new.shelf) c.in-Ok.line
          (flushed g (goal.at.returns-in_default-clause-runs g c).After-next)
          (subst (λ (x : List ℕ). Becomes (g.K.Sink.written c.flush.new.output)
          (λ old. old ++ x) (g.K.Sink.written c.write_all.new.to)) (c.deref.ensures.value ∙ c.in_default.ensures.kept)
          c.in_ok-write_all.ensures.ok)
          c.in-Ok.ensures.ok some m c.in-Ok.ensures.near in
          does_memory (rows_of c.args.policy.now) _ _ _ _ refl
          (Begun-here (rows_of c.args.policy.now) c.lines.invariant.law (g.S.Source.left c.args.input.now)
          (g.K.Sink.written c.args.output.now) (g.D.Shelf.world c.args.shelf.now) c.lines.lines.held c.lines.lines.taken
          (g.S.Source.left c.lines.input) (g.K.Sink.written c.write_all.new.to) (g.D.Shelf.world c.lines.shelf)
          (kept c.lines.machine)
          (Held-written (rows_of c.args.policy.now) (g.S.Source.left c.args.input.now) (g.K.Sink.written c.args.output.now)
          (g.D.Shelf.world c.args.shelf.now) c.lines.lines.held c.lines.lines.taken (g.S.Source.left c.lines.input)
          (g.K.Sink.written c.flush.new.output) c.flush.new.out.items (g.D.Shelf.world c.lines.shelf) (kept c.lines.machine)
          (g.K.Sink.written c.write_all.new.to)
          (flushed g (goal.at.returns-in_default-clause-runs g c).After-next)
          (subst (λ (x : List ℕ). Becomes (g.K.Sink.written c.flush.new.output)
          (λ old. old ++ x) (g.K.Sink.written c.write_all.new.to)) (c.deref.ensures.value ∙ c.in_default.ensures.kept)
          c.in_ok-write_all.ensures.ok)))
          (First-reached (rows_of c.args.policy.now) (g.S.Source.left c.args.input.now) (g.K.Sink.written c.args.output.now)
          (g.D.Shelf.world c.args.shelf.now) (g.S.Source.left c.next.new.from) (g.K.Sink.written c.write_all.new.to)
          (g.D.Shelf.world c.reply_to.new.shelf) first)
          first;
      takes =
          takes_some _ _ Memory refl tt
          (takes_more (g.S.Source.left c.args.input.now) (g.S.Source.left c.lines.input) (g.S.Source.left c.next.new.from)
          c.lines.lines.taken c.next.new.self.taken c.lines.invariant.took c.next.ensures.took c.next.ensures.within);
      asked =
          let some : c.in-Ok.line ≢ End = search rules in
          asks_cut (rows_of c.args.policy.now) c.args.policy.now (g.D.Shelf.world c.args.shelf.now) 5
          (g.S.Source.left c.args.input.now) (g.K.Sink.written c.args.output.now) c.lines.lines
          (g.S.Source.left c.lines.input) (g.D.Shelf.world c.lines.shelf) (kept c.lines.machine) c.lines.policy
          c.reply_to.new.policy c.next.new.self (g.S.Source.left c.next.new.from) c.in-Ok.line
          (inr refl) c.lines.invariant.asked c.in-Ok.ensures.ok some
          (subst (λ (x : List ℕ). MayAsk (command_by c.in-Ok.line x) c.lines.policy c.reply_to.new.policy) c.text.ensures
          c.in_default.ensures.may_ask);
      faithful = c.reply_to.ensures.faithful;
      rows = c.reply_to.ensures.rows ∙ c.lines.invariant.rows;
    }

pub returns-in_default-clause-source : goal.returns-in_default-clause-source
returns-in_default-clause-source g c e =
    absurd (never _ Memory Read refl tt e)

pub returns-in_default-clause-sink : goal.returns-in_default-clause-sink
returns-in_default-clause-sink g c e =
    absurd (never _ Memory Write refl tt e)

-- ---- the first line

pub lines-init : goal.lines-init
lines-init g c = record {
  law = (record {
    some = c.each_line_has_one_outcome.ensures.some (rows_of c.args.policy.now);
    one = c.each_line_has_one_outcome.ensures.one (rows_of c.args.policy.now);
    stays = c.each_line_has_one_outcome.ensures.stays (rows_of c.args.policy.now);
    tells = c.each_line_has_one_outcome.ensures.tells;
    tells_one = c.each_line_has_one_outcome.ensures.tells_one;
  });
  held = holds (rows_of c.args.policy.now) (g.S.Source.left c.args.input.now) (g.K.Sink.written c.args.output.now)
      (g.D.Shelf.world c.args.shelf.now) c.args.lines.now c.args.machine.now c.new-out.result.items
      c.requires.unread
      c.requires.engine c.requires.cursors c.requires.watches c.new-out.ensures.items;
  no_fault = no_fault c.args.lines.now c.requires.unread;
  took = took_nothing (g.S.Source.left c.args.input.now) c.args.lines.now c.requires.unread;
  within = within c.args.lines.now c.requires.unread;
  source = omega arith;
  sink = omega arith;
  changes = counted c.args.lines.now c.args.machine.now.engine c.requires.unread c.requires.engine;
  revisions = turned c.args.lines.now c.args.machine.now.engine c.requires.unread c.requires.engine;
  judged = judged (rows_of c.args.policy.now) c.args.machine.now.engine c.requires.engine;
  rows = refl;
  faithful = c.requires.faithful;
  asked = asks_nothing (rows_of c.args.policy.now) c.args.policy.now (g.D.Shelf.world c.args.shelf.now)
      (g.S.Source.left c.args.input.now) (g.K.Sink.written c.args.output.now)
      c.args.lines.now c.args.machine.now c.requires.unread c.requires.engine
      c.requires.cursors c.requires.watches;
}
