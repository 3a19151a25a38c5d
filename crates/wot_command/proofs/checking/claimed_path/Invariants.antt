use Rattle.std.proofs.Common.{◌≡◌, ◌++◌, length, map}
use Rattle.wot_plain.specs.Absent.{claimed_step}
use Rattle.wot_command.proofs.checking.claimed_path.Given as goal

abbrev pub invariant-steps : goal.invariant-steps
invariant-steps l = (l.path.amount ≡ l.fn.claim.0) × (l.path.steps ++ map claimed_step l.left ≡ map claimed_step
    l.fn.claim.1)

abbrev pub decreases-steps : goal.decreases-steps
decreases-steps l = length l.left
