use Rattle.wot_verdict.proofs.Changed.{kept_none}
use Rattle.wot_verdict.proofs.Holding.{nothing_held}
use Rattle.wot_verdict.proofs.verdicts.Verdicts.new.Goals as goal

pub returns : goal.returns
returns c = record {
  none = (kept_none c.new-held.result c.new-held.ensures.empty).0;
  nowhere = nothing_held c.new-held.result c.new-long.result.entries c.new-held.ensures.empty c.new-long.ensures.empty;
}

pub invariant_of-result : goal.invariant_of-result
invariant_of-result c = (kept_none c.new-held.result c.new-held.ensures.empty).1
