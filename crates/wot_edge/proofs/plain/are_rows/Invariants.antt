use Rattle.std.proofs.Common.{◌↔◌, length}
use Rattle.wot_edge.specs.Lawful.{AreRows}
use Rattle.wot_edge.proofs.plain.are_rows.Given as goal

abbrev pub invariant-rest : goal.invariant-rest
invariant-rest l = AreRows l.fpr l.rest ↔ AreRows l.fpr l.edges

abbrev pub decreases-rest : goal.decreases-rest
decreases-rest l = length l.rest
