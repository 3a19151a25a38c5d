use Rattle.std.proofs.Common.{length}
use Rattle.wot_edge.specs.declared.edge.EdgeFacts.{EdgeFacts}
use Rattle.wot_edge.specs.Record.{Has}
use Rattle.wot_check.specs.Trace.{IsNamed}
use Rattle.wot_check.proofs.Rows.{Within}
use Rattle.wot_check.proofs.trace.find.Given as goal

abbrev pub invariant-rest : goal.invariant-rest
invariant-rest l = record {
  within : Within l.rest l.edges;
  others : (edge : EdgeFacts) → Has l.edges edge → IsNamed l.item edge → Has l.rest edge;
}

abbrev pub decreases-rest : goal.decreases-rest
decreases-rest l = length l.rest
