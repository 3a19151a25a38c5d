use Rattle.wot_cache.proofs.BasisStaysTrue.{change_on}
use Rattle.wot_cache.proofs.laws.change_goes_on.Goals as goal

pub returns : goal.returns
returns c = change_on
