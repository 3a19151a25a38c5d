use Rattle.wot_live.proofs.SelfEdges.{primary_is}
use Rattle.wot_live.proofs.laws.self_edges.Goals as goal

pub returns : goal.returns
returns c = record {
  primary = λ verdicts t. primary_is verdicts c.args.cert.now t (c.certifications_count.ensures.only verdicts t)
      c.user_ids.ensures.set;
}
