use Rattle.std.proofs.Common.{◌≡◌, ◌++◌, length}
use Rattle.wot_plain.specs.Absent.{table_in}
use Rattle.wot_command.proofs.checking.claimed_table.Given as goal

abbrev pub invariant-labels : goal.invariant-labels
invariant-labels l = l.table ++ table_in l.left ≡ table_in l.fn.labels

abbrev pub decreases-labels : goal.decreases-labels
decreases-labels l = length l.left
