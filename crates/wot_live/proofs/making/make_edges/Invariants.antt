use Rattle.std.proofs.Common.{◌≡◌, ◌+◌, ◌≤◌, ◌++◌, min, length}
use Rattle.wot_live.specs.Found.{found_edges}
use Rattle.wot_live.proofs.making.make_edges.Given as goal

abbrev pub invariant-entries : goal.invariant-entries
invariant-entries l =
    (goal.iterator-entries).can_next l.by-iterator
    × (goal.iterator-entries).is_finite l.by-iterator
    × record {
      edges : l.edges.items ++ found_edges l.cert l.by-iterator ≡ found_edges l.cert l.initial.by-iterator;
      least : min (l.fn.steps.made + length l.edges.items) 18446744073709551615 ≤ l.steps.made;
      most : l.steps.made + length l.by-iterator ≤ l.fn.steps.made + length l.initial.by-iterator;
      never_less : l.fn.steps.made ≤ l.steps.made;
    }
