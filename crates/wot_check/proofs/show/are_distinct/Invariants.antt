use Rattle.std.proofs.Common.{◌↔◌, length}
use Rattle.wot_edge.specs.Path.{Distinct, issuers}
use Rattle.wot_check.proofs.show.are_distinct.Given as goal

abbrev pub invariant-rest : goal.invariant-rest
invariant-rest l = Distinct (issuers l.rest) ↔ Distinct (issuers l.steps)

abbrev pub decreases-rest : goal.decreases-rest
decreases-rest l = length l.rest
