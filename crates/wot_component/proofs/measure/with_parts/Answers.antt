use Rattle.std.proofs.Common.{rules}
use Rattle.wot_component.proofs.Follows.{before_on, before_all}
use Rattle.wot_component.proofs.measure.with_parts.Goals as goal

pub rest-preserved : goal.rest-preserved
rest-preserved c = record {
  fit = search rules;
  before = before_on _ _ _ _ _ _ _ _ _ _ _ c.of_part.ensures c.with-sum.ensures c.in-Some.ensures.cases.0
      c.rest.invariant.before;
}

pub returns : goal.returns
returns c = before_all _ _ _ _ _ _ _ c.in_default.ensures.cases c.rest.invariant.before
