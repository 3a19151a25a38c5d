use Rattle.std.proofs.Common.{Result, Ok, inl, ap, refl, subst, sym, ◌∙◌, arith}
use Rattle.wot_types.specs.declared.memory.Memory.{Memory}
use Rattle.wot_keyring_spec.specs.Keyring.{Keyring}
use Rattle.wot_cache.specs.State.{Engine, StaysButMarks}
use Rattle.wot_machine.specs.Machine.{Machine, kept}
use Rattle.wot_machine.specs.Stepped.{TellsBehind}
use Rattle.wot_plain.specs.Watching.{told_all}
use Rattle.wot_watch_commands.proofs.WatchEdges.{never_ok}
use Rattle.wot_machine.proofs.Reported.{telling_made, telling_once}
use Rattle.wot_plain.proofs.EdgesMadeByLine.{same_state}
use Rattle.wot_machine.proofs.CommandsInLines.{tells_behind}
use Rattle.wot_machine.proofs.Reported.{tells_nothing}
use Rattle.wot_machine.proofs.machine.Machine.tell.Goals as goal

pub returns-clause-tells : goal.returns-clause-tells
returns-clause-tells c =
    let done : Result (Unit {0}) Memory = Ok tt in
    let same = c.is_settled.ensures.same in
    let mid : Machine = c.is_settled.new.self in
    let old : Engine = mid.engine in
    let new : Engine = c.note_reported.new.self.engine in
    let stays : StaysButMarks old new = subst (λ (e : Engine). StaysButMarks old e)
    (sym c.note_reported.ensures.engine) c.in_ok-lines.ensures.stays in
    let has = c.extend_from_slice.new.self.items in
    subst (λ (m : Machine). TellsBehind (kept m) c.args.out.now.items (kept c.note_reported.new.self) has) same
    (tells_behind done old new mid.cursors c.note_reported.new.self.cursors mid.watches
    c.note_reported.new.self.watches c.in_ok-lines.lines.items
    c.args.out.now.items c.extend_from_slice.new.self.items (same_state old new stays)
    (ap (λ (k : Keyring). k.changes) stays.keyring) stays.revisions
    (c.note_reported.ensures.cursors ∙ c.in_ok-lines.ensures.cursors) c.in_ok-lines.ensures.lines
    (c.note_reported.ensures.reported ∙ (λ i. told_all (c.in_ok-lines.ensures.watches i) (c.deref-3.ensures.value i)))
    (cc (
      c.in_ok-extend_from_slice.ensures.items,
      c.deref-2.ensures.value,
      c.in_ok-text.ensures.text,
      c.deref.ensures.value,
    )))

pub returns-then-is_settled-clause-tells : goal.returns-then-is_settled-clause-tells
returns-then-is_settled-clause-tells c =
    let had = c.args.out.now.items in
    subst (λ (m : Machine). TellsBehind (kept c.args.self.now) had (kept m) had) (sym c.is_settled.ensures.same)
    (tells_nothing (kept c.args.self.now) had (c.is_settled.ensures.settled c.if-is_settled.true))

-- ---- made edges

pub returns-clause-makes : goal.returns-clause-makes
returns-clause-makes c =
    let done : Result (Unit {0}) Memory = Ok tt in
    telling_made (Ok c.in_ok-lines.lines) done (λ ok. refl) c.args.self.now c.is_settled.new.self c.watch_lines.new.self
    c.note_reported.new.self
    c.is_settled.ensures.same c.in_ok-lines.ensures.makes c.note_reported.ensures.engine c.note_reported.ensures.made

pub returns-then-is_settled-clause-makes : goal.returns-then-is_settled-clause-makes
returns-then-is_settled-clause-makes c =
    let same = c.is_settled.ensures.same in
    inl (ap (λ (m : Machine). m.engine) same, ap (λ (m : Machine). m.made) same)

pub returns-in_err-lines-clause-makes : goal.returns-in_err-lines-clause-makes
returns-in_err-lines-clause-makes c =
    telling_made c.watch_lines.result c.from_residual.result
    (λ ok. absurd (never_ok c.from_residual.result _ c.from_residual.ensures.1 ok)) c.args.self.now
    c.is_settled.new.self c.watch_lines.new.self c.watch_lines.new.self c.is_settled.ensures.same
    c.watch_lines.ensures.makes refl refl

pub returns-in_err-text-clause-makes : goal.returns-in_err-text-clause-makes
returns-in_err-text-clause-makes c =
    telling_made c.watch_lines.result c.from_residual-in_err-text.result
    (λ ok. absurd (never_ok c.from_residual-in_err-text.result _ c.from_residual-in_err-text.ensures.1 ok))
    c.args.self.now
    c.is_settled.new.self c.watch_lines.new.self c.watch_lines.new.self c.is_settled.ensures.same
    c.watch_lines.ensures.makes refl refl

pub returns-in_err-extend_from_slice-clause-makes : goal.returns-in_err-extend_from_slice-clause-makes
returns-in_err-extend_from_slice-clause-makes c =
    telling_made c.watch_lines.result c.from_residual-in_err-extend_from_slice.result
    (λ ok. absurd (never_ok c.from_residual-in_err-extend_from_slice.result _
    c.from_residual-in_err-extend_from_slice.ensures.1 ok)) c.args.self.now
    c.is_settled.new.self c.watch_lines.new.self c.watch_lines.new.self c.is_settled.ensures.same
    c.watch_lines.ensures.makes refl refl

pub returns-clause-once : goal.returns-clause-once
returns-clause-once c =
    telling_once c.args.self.now c.is_settled.new.self c.watch_lines.new.self c.note_reported.new.self
    c.is_settled.ensures.same c.in_ok-lines.ensures.once c.note_reported.ensures.made

pub returns-then-is_settled-clause-once : goal.returns-then-is_settled-clause-once
returns-then-is_settled-clause-once c =
    let same = ap (λ (m : Machine). m.made) c.is_settled.ensures.same in omega (arith, same)

pub returns-in_err-lines-clause-once : goal.returns-in_err-lines-clause-once
returns-in_err-lines-clause-once c =
    telling_once c.args.self.now c.is_settled.new.self c.watch_lines.new.self c.watch_lines.new.self
    c.is_settled.ensures.same c.watch_lines.ensures.once refl

pub returns-in_err-text-clause-once : goal.returns-in_err-text-clause-once
returns-in_err-text-clause-once c =
    telling_once c.args.self.now c.is_settled.new.self c.watch_lines.new.self c.watch_lines.new.self
    c.is_settled.ensures.same c.watch_lines.ensures.once refl

pub returns-in_err-extend_from_slice-clause-once : goal.returns-in_err-extend_from_slice-clause-once
returns-in_err-extend_from_slice-clause-once c =
    telling_once c.args.self.now c.is_settled.new.self c.watch_lines.new.self c.watch_lines.new.self
    c.is_settled.ensures.same c.watch_lines.ensures.once refl
