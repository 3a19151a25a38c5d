use Rattle.std.proofs.Common.{List, length}
use Rattle.wot_edge.specs.declared.path.Path.{Path}
use Rattle.wot_check.proofs.Sums.{UsedSoFar}
use Rattle.wot_check.proofs.using.used_by.Given as goal

abbrev pub invariant-rest : goal.invariant-rest
invariant-rest l = (done : List Path) × UsedSoFar l.used l.paths done l.rest

abbrev pub decreases-rest : goal.decreases-rest
decreases-rest l = length l.rest
