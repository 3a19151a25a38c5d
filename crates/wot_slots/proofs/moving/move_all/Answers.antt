use Rattle.std.proofs.Common.{subst, sym, arith}
use Rattle.wot_slots.specs.Near.{SaysSame}
use Rattle.wot_slots.proofs.Moved.{moved_nothing, moved_all, moved_back, on_err}
use Rattle.wot_slots.proofs.moving.move_all.Goals as goal

pub entries-init : goal.entries-init
entries-init g c =
    moved_nothing c.args.near.now.came c.args.near.now.items c.args.longer.now.items c.args.rest.now.entries
    c.requires.vacant

pub entries-preserved : goal.entries-preserved
entries-preserved g c = c.in_ok-move_entry.ensures.moved c.args.rest.now.entries c.entries.invariant

pub returns-clause-moved : goal.returns-clause-moved
returns-clause-moved g c =
    moved_all c.entries.at c.args.near.now.came c.args.near.now.items c.entries.longer.items c.args.rest.now.entries
    c.entries.rest.entries c.entries.invariant c.slots_are_entries.ensures.entries
    (omega (arith, c.entries-test.false))

pub returns-in_err-move_entry-clause-kept : goal.returns-in_err-move_entry-clause-kept
returns-in_err-move_entry-clause-kept g c =
    on_err _ c.from_residual.result
    (subst (λ rest. SaysSame c.args.near.now.items c.args.rest.now.entries c.args.near.now.items rest)
    (sym c.in_err-move_entry.ensures.kept)
    (moved_back c.entries.at c.args.near.now.came c.args.near.now.items c.entries.longer.items c.args.rest.now.entries
    c.entries.rest.entries c.entries.invariant))
