use Rattle.wot_slots.proofs.Moved.{nothing_held}
use Rattle.wot_slots.proofs.slots.Slots.new.Goals as goal

pub returns : goal.returns
returns g c = record {
  empty = nothing_held c.new-near.result.items c.new-rest.result.entries c.new-near.ensures.none
      c.new-rest.ensures.empty;
}
