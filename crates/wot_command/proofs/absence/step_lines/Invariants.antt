use Rattle.std.proofs.Common.{◌≡◌, ◌++◌, length, map}
use Rattle.wot_plain.specs.Absent.{claim_step}
use Rattle.wot_command.proofs.absence.step_lines.Given as goal

abbrev pub invariant-steps : goal.invariant-steps
invariant-steps l = l.lines ++ map claim_step l.left ≡ map claim_step l.fn.steps

abbrev pub decreases-steps : goal.decreases-steps
decreases-steps l = length l.left
