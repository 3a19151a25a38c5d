use Rattle.std.proofs.Common.{refl}
use Rattle.wot_slots.proofs.near.replace_near.Goals as goal

pub returns-in_default : goal.returns-in_default
returns-in_default g c = record { replaced = (c.in_default.ensures.none, refl) }
