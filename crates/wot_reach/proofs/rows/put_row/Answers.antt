use Rattle.wot_reach.proofs.SlotNumbers.{slot_added}
use Rattle.wot_reach.proofs.rows.put_row.Goals as goal

pub edges-preserved : goal.edges-preserved
edges-preserved g c =
    slot_added c.args.numbers.now.entries c.edges.rows.items c.push.new.self.items c.slot_of-slot.result
    c.edges.invariant c.slot_of-slot.ensures c.in_ok-push.ensures.items
