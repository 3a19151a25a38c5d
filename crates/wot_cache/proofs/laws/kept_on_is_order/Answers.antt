use Rattle.wot_cache.proofs.BasisStaysTrue.{engine_further, engine_itself, engine_still}
use Rattle.wot_cache.proofs.laws.kept_on_is_order.Goals as goal

pub returns : goal.returns
returns c = record { itself = engine_itself; still = engine_still; further = engine_further }
