use Rattle.std.proofs.Common.{sym}
use Rattle.wot_slots.specs.Near.{held_of}
use Rattle.wot_slots.proofs.Nexts.{entry_found, entry_lost, entry_none}
use Rattle.wot_slots.proofs.slots.Slots.next_above.Goals as goal

pub returns-in_default : goal.returns-in_default
returns-in_default g c = record {
  next =
      entry_none (held_of c.args.self.now) c.args.last c.next_number.result
      c.next_number.ensures.next c.in_default.is;
}

pub returns-in-Some-get : goal.returns-in-Some-get
returns-in-Some-get g c = record {
  next =
      entry_found (held_of c.args.self.now) c.args.last c.next_number.result
      c.next_number.ensures.next c.in-Some.number c.in-Some-get.value c.in-Some.is
      (sym c.in-Some-get.ensures.held);
}

pub returns-in-None : goal.returns-in-None
returns-in-None g c =
    entry_lost (held_of c.args.self.now) c.args.last c.next_number.result
    c.next_number.ensures.next c.in-Some.number c.in-Some.is (sym c.in-None.ensures.held)
