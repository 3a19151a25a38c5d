use Rattle.std.proofs.Common.{◌≡◌, ◌++◌, map}
use Rattle.wot_plain.specs.Absent.{label_line}
use Rattle.wot_command.proofs.absence.label_lines.Given as goal

abbrev pub invariant-rest : goal.invariant-rest
invariant-rest l =
    (goal.iterator-rest).can_next l.rest
    × (goal.iterator-rest).is_finite l.rest
    × (l.lines ++ map label_line l.rest ≡ map label_line l.fn.table)
