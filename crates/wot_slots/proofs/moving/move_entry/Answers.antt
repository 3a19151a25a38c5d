use Rattle.std.proofs.Common.{ap, sym}
use Rattle.std.specs.Option.{option_map}
use Rattle.wot_slots.proofs.Moved.{moved_on, moved_past, on_ok}
use Rattle.wot_slots.proofs.moving.move_entry.Goals as goal

pub returns-in_default-clause-moved : goal.returns-in_default-clause-moved
returns-in_default-clause-moved g c = λ before h.
    moved_past c.args.at c.args.near.now.came c.args.near.now.items c.args.longer.now.items before
    c.args.rest.now.entries (sym c.in_default.ensures.entry) h

pub returns-clause-moved : goal.returns-clause-moved
returns-clause-moved g c =
    on_ok _ _ c.move_number.result (λ m before h. moved_on c.args.at c.args.near.now.came c.args.near.now.items
    c.args.longer.now.items c.move_number.new.longer.items before c.args.rest.now.entries
    c.move_number.new.rest.entries c.in-Some.field-0.now.0 (ap (option_map (λ e. e.0)) (sym c.in-Some.ensures.entry)) h m)
    c.move_number.ensures.moved
