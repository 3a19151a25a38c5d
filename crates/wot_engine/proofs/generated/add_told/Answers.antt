use Rattle.std.proofs.Common.{ap, subst, sym, ◌∙◌}
use Rattle.wot_keyring_spec.specs.Keyring.{Keyring}
use Rattle.wot_cache.specs.State.{Engine, StaysButMarks}
use Rattle.wot_plain.specs.Watching.{told_all}
use Rattle.wot_plain.proofs.EdgesMadeByLine.{same_state}
use Rattle.wot_machine.proofs.CommandsInLines.{tells_of}
use Rattle.wot_engine.proofs.generated.add_told.Goals as goal

pub returns-clause-added : goal.returns-clause-added
returns-clause-added c =
    let old : Engine = c.args.machine.now.engine in
    let new : Engine = c.note_reported.new.self.engine in
    let stays : StaysButMarks old new = subst (λ (e : Engine). StaysButMarks old e) (sym c.note_reported.ensures.engine)
    c.in_ok-lines.ensures.stays in
    record {
      reported = c.in_ok-lines.lines.items;
      reported_are = tells_of old new c.args.machine.now.cursors c.note_reported.new.self.cursors c.args.machine.now.watches
          c.note_reported.new.self.watches c.in_ok-lines.lines.items
          (same_state old new stays) (ap (λ (k : Keyring). k.changes) stays.keyring) stays.revisions (c.note_reported.ensures.cursors
          ∙ c.in_ok-lines.ensures.cursors) c.in_ok-lines.ensures.lines
          (c.note_reported.ensures.reported ∙ (λ i. told_all (c.in_ok-lines.ensures.watches i) (c.deref-2.ensures.value i)));
      tells = rw c.deref.ensures.value at c.in_ok-add_all.ensures.added;
    }
