use Rattle.std.proofs.Common.{◌≡◌, ◌++◌, length, map}
use Rattle.wot_plain.specs.Absent.{claim_line}
use Rattle.wot_command.proofs.absence.claim_lines.Given as goal

abbrev pub invariant-paths : goal.invariant-paths
invariant-paths l = l.claims ++ map claim_line l.left ≡ map claim_line l.fn.paths

abbrev pub decreases-paths : goal.decreases-paths
decreases-paths l = length l.left
