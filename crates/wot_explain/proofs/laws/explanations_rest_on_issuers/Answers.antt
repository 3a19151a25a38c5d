use Rattle.wot_explain.proofs.Around.{explained_alike}
use Rattle.wot_explain.proofs.laws.explanations_rest_on_issuers.Goals as goal

pub returns : goal.returns
returns c = record {
  alike = explained_alike c.own_verdicts_decide.ensures.standings
      c.own_verdicts_decide.ensures.user_ids;
}
