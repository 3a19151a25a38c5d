use Rattle.std.proofs.Common.{◌≡◌, length}
use Rattle.wot_edge.specs.Path.{least_left}
use Rattle.wot_edge.specs.Sums.{use_in}
use Rattle.wot_check.proofs.left.least.Given as goal

abbrev pub invariant-rest : goal.invariant-rest
invariant-rest l = least_left (use_in l.used) l.least l.rest ≡ least_left (use_in l.used) l.amount l.steps

abbrev pub decreases-rest : goal.decreases-rest
decreases-rest l = length l.rest
