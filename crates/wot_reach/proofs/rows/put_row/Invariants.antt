use Rattle.wot_reach.specs.Slots.{AreSlots}
use Rattle.wot_reach.proofs.rows.put_row.Given as goal

abbrev pub invariant-edges : goal.invariant-edges
invariant-edges g l = AreSlots l.numbers.entries l.rows.items
