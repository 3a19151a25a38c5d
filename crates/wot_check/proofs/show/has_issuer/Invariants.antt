use Rattle.std.proofs.Common.{◌↔◌, length}
use Rattle.wot_edge.specs.Path.{issuers}
use Rattle.wot_edge.specs.Record.{Has}
use Rattle.wot_check.proofs.show.has_issuer.Given as goal

abbrev pub invariant-rest : goal.invariant-rest
invariant-rest l = Has (issuers l.rest) l.fpr ↔ Has (issuers l.steps) l.fpr

abbrev pub decreases-rest : goal.decreases-rest
decreases-rest l = length l.rest
