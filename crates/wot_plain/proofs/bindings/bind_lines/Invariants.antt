use Rattle.std.proofs.Common.{◌≡◌, ◌++◌, map}
use Rattle.std.specs.Vec.Iter.{into_iter_items}
use Rattle.wot_plain.specs.Listing.{bind_line}
use Rattle.wot_plain.proofs.bindings.bind_lines.Given as goal

abbrev pub invariant-binds : goal.invariant-binds
invariant-binds l =
    (goal.iterator-binds).can_next l.bind-iterator
    × (goal.iterator-binds).is_finite l.bind-iterator
    × (l.lines ++ map bind_line (into_iter_items l.bind-iterator) ≡ map bind_line l.fn.binds.items)
