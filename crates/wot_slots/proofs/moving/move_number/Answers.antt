use Rattle.std.proofs.Common.{sym, ap, ◌∙◌, is_some}
use Rattle.wot_slots.specs.Near.{near_in}
use Rattle.wot_slots.proofs.Moved.{moves_nothing, moves_again, moves_near, moves_far, none_of}
use Rattle.wot_slots.proofs.moving.move_number.Goals as goal

pub returns-in_default-clause-moved : goal.returns-in_default-clause-moved
returns-in_default-clause-moved g c =
    moves_nothing c.args.number.now c.args.near.now.items c.args.longer.now.items c.args.rest.now.entries
    (sym c.in_default.ensures.found)

pub returns-then-is_some-clause-moved : goal.returns-then-is_some-clause-moved
returns-then-is_some-clause-moved g c =
    moves_again c.args.number.now c.args.near.now.items c.args.longer.now.items c.args.rest.now.entries
    (ap is_some (sym c.near_at-2.ensures.found) ∙ sym c.is_some.ensures ∙ c.if-is_some.true)

pub keep_near-requires : goal.keep_near-requires
keep_near-requires g c = record {
  absent = none_of (near_in c.args.longer.now.items c.args.number.now)
      (ap is_some (sym c.near_at-2.ensures.found) ∙ sym c.is_some.ensures ∙ c.if-is_some.false);
}

pub returns-then-keep_near-clause-moved : goal.returns-then-keep_near-clause-moved
returns-then-keep_near-clause-moved g c =
    moves_near c.args.number.now c.args.near.now.items c.args.longer.now.items c.args.rest.now.entries c.in-Some.value
    (sym c.in-Some.ensures.found) c.keep_near.new.row.items c.if-keep_near.ensures.kept

pub returns-in-Ok-clause-moved : goal.returns-in-Ok-clause-moved
returns-in-Ok-clause-moved g c =
    moves_far c.args.number.now c.args.near.now.items c.args.longer.now.items c.args.rest.now.entries c.in-Some.value
    (sym c.in-Some.ensures.found) c.keep_near.new.row.items c.insert.new.self.entries c.if-keep_near.ensures.kept
    (ap is_some (sym c.near_at-2.ensures.found) ∙ sym c.is_some.ensures ∙ c.if-is_some.false)
    c.in-Ok.ensures.updates.0
