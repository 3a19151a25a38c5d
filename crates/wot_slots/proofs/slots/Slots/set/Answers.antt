use Rattle.std.proofs.Common.{sym, ap, is_some}
use Rattle.wot_slots.proofs.slots.Slots.set.Goals as goal

pub put-requires : goal.put-requires
put-requires g c = record { absent = sym c.in_default.ensures.held }

pub replace-requires : goal.replace-requires
replace-requires g c = record { there = ap is_some (sym c.in-Some.ensures.held) }
