use Rattle.std.proofs.Common.{sym, subst}
use Rattle.wot_reach.specs.Slots.{AreSlots}
use Rattle.wot_reach.proofs.rows.Rows.number.Goals as goal

pub returns : goal.returns
returns c = record {
  tells = λ numbers are. c.number_from.ensures.tells numbers (subst (AreSlots numbers) (sym c.deref.ensures.value) are);
}
