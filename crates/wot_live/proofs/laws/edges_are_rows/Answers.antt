use Rattle.wot_live.proofs.EdgesAreRows.{edges_into, edges_rows}
use Rattle.wot_live.proofs.laws.edges_are_rows.Goals as goal

pub returns-clause-rows : goal.returns-clause-rows
returns-clause-rows c = λ verdicts cert t. edges_rows verdicts cert t (c.certifications_count.ensures.only verdicts t)

pub returns-clause-into : goal.returns-clause-into
returns-clause-into c = edges_into
