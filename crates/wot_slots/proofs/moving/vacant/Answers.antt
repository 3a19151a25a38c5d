use Rattle.wot_slots.proofs.Moved.{vacant_row}
use Rattle.wot_slots.proofs.moving.vacant.Goals as goal

pub returns : goal.returns
returns g c = record { vacant = vacant_row c.vacant.result c.vacant.ensures.vacant }
