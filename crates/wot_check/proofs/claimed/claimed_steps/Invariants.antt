use Rattle.std.proofs.Common.{◌≡◌, ◌++◌, map, length}
use Rattle.wot_check.specs.Claim.{claimed_step}
use Rattle.wot_check.proofs.claimed.claimed_steps.Given as goal

abbrev pub invariant-rest : goal.invariant-rest
invariant-rest l = l.made.items ++ map claimed_step l.rest ≡ map claimed_step l.steps

abbrev pub decreases-rest : goal.decreases-rest
decreases-rest l = length l.rest
