use Rattle.std.proofs.Common.{take, vec_capacity}
use Rattle.std.specs.List.{flat_map}
use Rattle.wot_fields.proofs.Pieced.{PutSoFar}
use Rattle.wot_reply_lines.proofs.lines.put_lines.Given as goal

abbrev pub invariant-loop-line : goal.invariant-loop-line
invariant-loop-line g l =
    PutSoFar l.initial.out.items l.out.items (flat_map g.T.Printed.text (take l.line-index l.lines))
    (vec_capacity l.initial.out) (vec_capacity l.out)
