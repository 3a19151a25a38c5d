use Rattle.std.proofs.Common.{Some, cond, ap, ◌∙◌}
use Rattle.wot_slots.specs.Near.{is_number}
use Rattle.wot_slots.proofs.Moved.{on_err}
use Rattle.wot_slots.proofs.slots.Slots.put.Goals as goal

pub hold-requires : goal.hold-requires
hold-requires g c = record { absent = c.make_room.ensures.same c.args.number ∙ c.requires.absent }

pub returns-clause-put : goal.returns-clause-put
returns-clause-put g c = λ n. c.in_ok-hold.ensures.put n ∙ ap (cond (is_number c.args.number n) (Some c.args.value))
    (c.make_room.ensures.same n)

pub returns-in_err-hold-clause-kept : goal.returns-in_err-hold-clause-kept
returns-in_err-hold-clause-kept g c =
    on_err _ c.from_residual.result (λ n. c.in_err-hold.ensures.kept n ∙ c.make_room.ensures.same n)
