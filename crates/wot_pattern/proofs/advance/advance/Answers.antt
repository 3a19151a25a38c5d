use Rattle.std.proofs.Common.{rules, arith, reverse}
use Rattle.wot_pattern.proofs.Loops.{advanced_back, take_back}
use Rattle.wot_pattern.proofs.advance.advance.Goals as goal

pub loop-at-preserved : goal.loop-at-preserved
loop-at-preserved c = (
  advanced_back c.args.character c.loop-at.at c.args.nodes.now c.index-nodes-at.result c.loop-at.slots c.args.slots.now
      (reverse c.loop-at.begins.items)
      (omega arith) (omega arith) (omega arith) (omega arith) c.index-nodes-at.is c.loop-at.invariant.1
      c.loop-at.invariant.0
      c.advance_one-slot.result (reverse c.advance_one-slot.new.begins.items) c.advance_one-slot.ensures.slot
      c.advance_one-slot.ensures.begins,
  take_back c.loop-at.at c.loop-at.slots c.args.slots.now c.advance_one-slot.result c.loop-at-test.true
      c.loop-at.invariant.1,
  search rules,
  omega arith,
  omega arith,
)
