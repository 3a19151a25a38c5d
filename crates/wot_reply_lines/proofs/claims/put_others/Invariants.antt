use Rattle.std.proofs.Common.{take, vec_capacity, ◌∷◌}
use Rattle.std.specs.List.{flat_map}
use Rattle.wot_fields.proofs.Pieced.{PutSoFar}
use Rattle.wot_reply_lines.proofs.claims.put_others.Given as goal

abbrev pub invariant-loop-item : goal.invariant-loop-item
invariant-loop-item g l =
    PutSoFar l.initial.out.items l.out.items
    (flat_map (λ item. l.separator ∷ g.T.Printed.text item) (take l.item-index l.items)) (vec_capacity l.initial.out)
    (vec_capacity l.out)
