use Rattle.wot_slots.proofs.Moved.{gone_from_both}
use Rattle.wot_slots.proofs.slots.Slots.forget.Goals as goal

pub returns : goal.returns
returns g c = record {
  forgotten =
      gone_from_both c.args.self.now.near.items c.forget_near.new.row.items c.args.self.now.rest.entries
      c.remove.new.self.entries c.args.number.now c.forget_near.ensures.forgotten c.remove.ensures.updates.0;
}
