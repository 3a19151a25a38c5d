use Rattle.std.proofs.Common.{sym, subst}
use Rattle.wot_reach.specs.Slots.{AreSlots}
use Rattle.wot_reach.proofs.slots.Slots.find_at.Goals as goal

pub returns-in-Some : goal.returns-in-Some
returns-in-Some c = record {
  tells = λ numbers are. c.number_from.ensures.tells numbers (subst (AreSlots numbers) (sym c.deref.ensures.value) are);
}
