use Rattle.std.proofs.Common.{◌∷◌}
use Rattle.wot_fields.proofs.Pieced.{none_put}
use Rattle.wot_reply_lines.proofs.claims.put_others.Goals as goal

pub returns-in-Err : goal.returns-in-Err
returns-in-Err g c =
    none_put (λ item. c.args.separator ∷ g.T.Printed.text item) c.args.items.now c.loop-item.item-index _ c.args.out.now
    c.loop-item.out c.put_other.new.out c.truncate.new.self c.len-start.result c.in-Err.fault c.in-Err.fault
    c.loop-item-test.true c.loop-item.invariant c.args.out.now.ok.0 c.loop-item.out.ok.0
    (rw c.item-item.is at c.in-Err.ensures) c.len-start.ensures c.truncate.ensures.items c.truncate.ensures.capacity
