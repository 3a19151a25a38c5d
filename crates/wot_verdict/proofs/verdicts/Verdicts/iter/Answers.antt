use Rattle.wot_verdict.proofs.Changed.{sorted_in}
use Rattle.wot_verdict.proofs.verdicts.Verdicts.iter.Goals as goal

pub returns-clause-sorted : goal.returns-clause-sorted
returns-clause-sorted c = rw (← c.self.view_is) (sorted_in c.self.inside.held)
