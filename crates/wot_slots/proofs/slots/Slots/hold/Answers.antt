use Rattle.std.proofs.Common.{◌≡◌, Some, cond, sym, subst}
use Rattle.wot_types.specs.declared.number.SigNumber.{SigNumber}
use Rattle.wot_slots.specs.Near.{holder_in, is_number}
use Rattle.wot_slots.proofs.Moved.{absent_near, put_in_slot, put_in_rest}
use Rattle.wot_slots.proofs.slots.Slots.hold.Goals as goal

pub keep_near-requires : goal.keep_near-requires
keep_near-requires g c = record {
  absent = absent_near c.args.self.now.near.items c.args.self.now.rest.entries c.args.number c.requires.absent;
}

pub returns-then-keep_near-clause-put : goal.returns-then-keep_near-clause-put
returns-then-keep_near-clause-put g c =
    put_in_slot c.args.self.now.near.items c.keep_near.new.row.items c.args.self.now.rest.entries c.args.number
    c.args.value c.if-keep_near.ensures.kept

pub returns-in-Ok-clause-put : goal.returns-in-Ok-clause-put
returns-in-Ok-clause-put g c =
    let near = c.args.self.now.near.items in
    let rest = c.args.self.now.rest.entries in
    subst (λ slots. (q : SigNumber) → holder_in slots c.insert.new.self.entries q ≡ cond
    (is_number c.args.number q) (Some c.args.value) (holder_in near rest q)) (sym c.if-keep_near.ensures.kept)
    (put_in_rest near rest c.insert.new.self.entries c.args.number c.args.value
    (absent_near near rest c.args.number c.requires.absent) c.in-Ok.ensures.updates.0)

pub returns-in-Err-clause-kept : goal.returns-in-Err-clause-kept
returns-in-Err-clause-kept g c = λ n i. holder_in (c.if-keep_near.ensures.kept i) (c.in-Err.ensures.err i) n
