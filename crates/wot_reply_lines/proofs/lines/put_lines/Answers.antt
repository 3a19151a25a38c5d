use Rattle.wot_fields.proofs.Pieced.{none_put}
use Rattle.wot_reply_lines.proofs.lines.put_lines.Goals as goal

pub returns-in-Err : goal.returns-in-Err
returns-in-Err g c =
    none_put g.T.Printed.text c.args.lines.now c.loop-line.line-index _ c.args.out.now c.loop-line.out c.put.new.out
    c.truncate.new.self c.len-start.result c.in-Err.fault c.in-Err.fault c.loop-line-test.true c.loop-line.invariant
    c.args.out.now.ok.0 c.loop-line.out.ok.0 (rw c.line-item.is at c.in-Err.ensures) c.len-start.ensures
    c.truncate.ensures.items c.truncate.ensures.capacity
