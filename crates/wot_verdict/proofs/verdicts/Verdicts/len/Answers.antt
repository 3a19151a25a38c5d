use Rattle.wot_verdict.proofs.Changed.{sorted_in}
use Rattle.wot_verdict.proofs.verdicts.Verdicts.len.Goals as goal

pub returns : goal.returns
returns c = record {
  count = rw (← c.self.view_is) c.self.invariant.counted;
  few = c.self.invariant.few;
  sorted = rw (← c.self.view_is) (sorted_in c.self.inside.held);
}
