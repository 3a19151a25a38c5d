use Rattle.std.proofs.Common.{◌∙◌, ap}
use Rattle.wot_plain.specs.Pacing.{behind}
use Rattle.wot_cursor_commands.proofs.Pieces.{piece_is}
use Rattle.wot_cursor_commands.proofs.pacing.piece.Goals as goal

pub returns : goal.returns
returns c = record {
  piece = (
    c.in_ok-binds.binds.items,
    rw c.wanted-wanted.ensures.wanted at (rw c.place-after.ensures.place at c.in_ok-binds.ensures.piece),
    piece_is c.in_ok-binds.binds.items c.in_ok-lines.lines c.items.result.now c.in_ok-lines.ensures.lines
        c.items.ensures.whole,
    λ cursors. c.in_ok-moved.ensures.moved cursors ∙ ap (behind cursors c.args.name.now) c.deref.ensures.value,
  );
}
