use Rattle.std.proofs.Common.{◌≡◌, ◌≤◌, ◌+◌, ◌*◌, length}
use Rattle.wot_plain.specs.Absent.{sum_in}
use Rattle.wot_command.proofs.checking.sum.Given as goal

abbrev pub invariant-claims : goal.invariant-claims
invariant-claims l = (l.sum + sum_in l.left ≡ sum_in l.fn.claims) × (l.sum + 255 * length l.left ≤ 255 * length
    l.fn.claims)

abbrev pub decreases-claims : goal.decreases-claims
decreases-claims l = length l.left
