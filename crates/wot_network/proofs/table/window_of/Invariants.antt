use Rattle.wot_network.proofs.Windows.{InsideBut}
use Rattle.wot_network.proofs.table.window_of.Given as goal

abbrev pub invariant-lines : goal.invariant-lines
invariant-lines l =
    (goal.iterator-lines).can_next l.line-iterator
    × (goal.iterator-lines).is_finite l.line-iterator
    × InsideBut l.window l.fn.lines.entries l.line-iterator
