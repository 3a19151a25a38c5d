use Rattle.wot_fields.specs.Uid.{escape, escaped}
use Rattle.wot_fields.proofs.Pieced.{none_put}
use Rattle.wot_fields.proofs.piece.put_uid.Goals as goal

pub returns-in-Err : goal.returns-in-Err
unfolding escaped
returns-in-Err c =
    none_put escape c.args.octets.now c.loop-octet.octet-index _ c.args.out.now c.loop-octet.out c.put_escape.new.out
    c.truncate.new.self c.len-start.result c.in-Err.fault c.in-Err.fault c.loop-octet-test.true c.loop-octet.invariant
    c.args.out.now.ok.0 c.loop-octet.out.ok.0 c.in-Err.ensures c.len-start.ensures c.truncate.ensures.items
    c.truncate.ensures.capacity
