use Rattle.std.proofs.Common.{◌≡◌, Some, cond, sym, subst}
use Rattle.wot_types.specs.declared.number.SigNumber.{SigNumber}
use Rattle.wot_slots.specs.Near.{holder_in, is_number}
use Rattle.wot_slots.proofs.Moved.{in_rest, put_in_slot, put_in_rest, there_is}
use Rattle.wot_slots.proofs.slots.Slots.replace.Goals as goal

pub returns-then-replace_near : goal.returns-then-replace_near
returns-then-replace_near g c = record {
  put = put_in_slot c.args.self.now.near.items c.replace_near.new.row.items c.args.self.now.rest.entries
      c.args.number c.args.value c.if-replace_near.ensures.replaced;
}

pub returns-in-Ok : goal.returns-in-Ok
returns-in-Ok g c =
    let near = c.args.self.now.near.items in
    let rest = c.args.self.now.rest.entries in
    record {
      put = subst (λ slots. (q : SigNumber) → holder_in slots c.insert.new.self.entries q ≡ cond
          (is_number c.args.number q) (Some c.args.value) (holder_in near rest q))
          (sym c.if-replace_near.ensures.replaced.1)
          (put_in_rest near rest c.insert.new.self.entries c.args.number c.args.value
          c.if-replace_near.ensures.replaced.0 c.in-Ok.ensures.updates.0);
    }

pub returns-in-Err : goal.returns-in-Err
returns-in-Err g c =
    let near = c.args.self.now.near.items in
    let rest = c.args.self.now.rest.entries in
    there_is (holder_in near rest c.args.number) c.requires.there
    (in_rest near rest c.args.number c.if-replace_near.ensures.replaced.0 c.in-Err.ensures.absent)
