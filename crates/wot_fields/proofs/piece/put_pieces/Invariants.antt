use Rattle.std.proofs.Common.{take, vec_capacity}
use Rattle.wot_fields.specs.Pieces.{pieces_text}
use Rattle.wot_fields.proofs.Pieced.{PutSoFar}
use Rattle.wot_fields.proofs.piece.put_pieces.Given as goal

abbrev pub invariant-loop-piece : goal.invariant-loop-piece
invariant-loop-piece l =
    PutSoFar l.initial.out.items l.out.items (pieces_text (take l.piece-index l.pieces)) (vec_capacity l.initial.out)
    (vec_capacity l.out)
