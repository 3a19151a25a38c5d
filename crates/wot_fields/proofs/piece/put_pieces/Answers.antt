use Rattle.wot_fields.specs.Pieces.{piece_text}
use Rattle.wot_fields.proofs.Pieced.{none_put}
use Rattle.wot_fields.proofs.piece.put_pieces.Goals as goal

pub returns-in-Err : goal.returns-in-Err
returns-in-Err c =
    none_put piece_text c.args.pieces.now c.loop-piece.piece-index _ c.args.out.now c.loop-piece.out c.put_piece.new.out
    c.truncate.new.self c.len-start.result c.in-Err.fault c.in-Err.fault c.loop-piece-test.true c.loop-piece.invariant
    c.args.out.now.ok.0 c.loop-piece.out.ok.0 c.in-Err.ensures c.len-start.ensures c.truncate.ensures.items
    c.truncate.ensures.capacity
