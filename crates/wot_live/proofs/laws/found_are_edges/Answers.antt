use Rattle.wot_live.proofs.FoundEdges.{all_found}
use Rattle.wot_live.proofs.laws.found_are_edges.Goals as goal

pub returns : goal.returns
returns c = record {
  all = λ verdicts cert t found. all_found cert verdicts t (c.certifications_count.ensures.only verdicts t) found;
}
