use Rattle.wot_check.proofs.Sums.{use_none}
use Rattle.wot_check.proofs.using.unused.Goals as goal

pub returns-clause-none : goal.returns-clause-none
returns-clause-none c = use_none c.new.result c.new.ensures.pairs c.new.ensures.roots
