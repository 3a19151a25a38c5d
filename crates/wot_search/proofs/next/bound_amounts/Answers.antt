use Rattle.wot_search.proofs.NextOfTwo.{amounts_small}
use Rattle.wot_search.proofs.next.bound_amounts.Goals as goal

pub returns : goal.returns
returns c = amounts_small c.args.roots.now c.len-count.ensures.roots.amounts
