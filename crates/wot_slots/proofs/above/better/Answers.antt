use Rattle.std.proofs.Common.{sym}
use Rattle.wot_slots.proofs.Nexts.{better_empty, better_here, better_same}
use Rattle.wot_slots.proofs.Numbers.{itself}
use Rattle.wot_slots.proofs.above.better.Goals as goal

pub returns-in_default : goal.returns-in_default
returns-in_default g c = record {
  better =
      better_empty c.args.row.now.items c.args.at c.args.last c.args.best (sym c.in_default.ensures.slot);
}

pub returns-then-is_better : goal.returns-then-is_better
returns-then-is_better g c = record {
  better =
      better_here c.args.row.now.items c.args.at c.args.last c.args.best c.len.result c.len.ensures
      c.in-Some.field-0.now.0 c.in-Some.field-0.now.1 (sym c.in-Some.ensures.slot) c.number_is_whole.ensures.whole
      (c.is_better.ensures.read c.if-is_better.true) (c.is_better.ensures.above c.if-is_better.true)
      (c.is_better.ensures.below c.if-is_better.true) (itself c.in-Some.field-0.now.0);
}

pub returns-else-is_better : goal.returns-else-is_better
returns-else-is_better g c = record {
  better =
      better_same c.args.row.now.items c.args.at c.args.last c.args.best c.len.result c.len.ensures
      c.in-Some.field-0.now.0 c.in-Some.field-0.now.1 (sym c.in-Some.ensures.slot)
      (c.is_better.ensures.others c.if-is_better.false);
}
