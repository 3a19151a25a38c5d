use Rattle.std.proofs.Common.{◌∙◌, refl}
use Rattle.wot_plain.proofs.Paced.{moved_to}
use Rattle.wot_cursor_commands.proofs.pacing.moved_behind.Goals as goal

pub returns : goal.returns
returns c = record {
  moved = λ cursors. moved_to cursors c.args.name.now c.in_ok-cursor.cursor
      (record { fpr = c.in-Some.last.now.fpr; uid = c.in_ok-new.field-0 }) c.args.binds.now c.in-Some.last.now
      c.in_ok-cursor.ensures.equal refl (c.in_ok-new.ensures.copied ∙ c.octets.ensures.whole) c.in-Some.ensures.value;
}
