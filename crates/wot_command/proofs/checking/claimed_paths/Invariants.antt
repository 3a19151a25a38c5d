use Rattle.std.proofs.Common.{◌≡◌, ◌++◌, length, map}
use Rattle.wot_plain.specs.Absent.{claim_in}
use Rattle.wot_command.proofs.checking.claimed_paths.Given as goal

abbrev pub invariant-claims : goal.invariant-claims
invariant-claims l = l.paths.items ++ map claim_in l.left ≡ map claim_in l.fn.claims

abbrev pub decreases-claims : goal.decreases-claims
decreases-claims l = length l.left
