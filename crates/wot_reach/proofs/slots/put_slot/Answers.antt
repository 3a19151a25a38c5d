use Rattle.std.proofs.Common.{None}
use Rattle.wot_reach.specs.declared.slots.Slot.{Slot}
use Rattle.wot_reach.proofs.SlotNumbers.{slot_added}
use Rattle.wot_reach.proofs.slots.put_slot.Goals as goal

pub returns : goal.returns
returns c =
    let slot : Slot = record { fpr = c.args.fpr.now; number = c.number_in.result; place = None } in
    record {
      slots = λ are.
          slot_added c.args.numbers.now.entries c.args.slots.now.items c.push.new.self.items slot are
          c.number_in.ensures.number c.in_ok-push.ensures.items;
    }
