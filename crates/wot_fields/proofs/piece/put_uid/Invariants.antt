use Rattle.std.proofs.Common.{take, vec_capacity}
use Rattle.std.specs.List.{flat_map}
use Rattle.wot_fields.specs.Uid.{escape}
use Rattle.wot_fields.proofs.Pieced.{PutSoFar}
use Rattle.wot_fields.proofs.piece.put_uid.Given as goal

abbrev pub invariant-loop-octet : goal.invariant-loop-octet
invariant-loop-octet l =
    PutSoFar l.initial.out.items l.out.items (flat_map escape (take l.octet-index l.octets))
    (vec_capacity l.initial.out) (vec_capacity l.out)
