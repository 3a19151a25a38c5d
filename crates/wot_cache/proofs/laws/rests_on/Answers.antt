use Rattle.wot_cache.proofs.BasisStaysTrue.{rests_grown, rests_later}
use Rattle.wot_cache.proofs.laws.rests_on.Goals as goal

pub returns : goal.returns
returns c = record { grown = rests_grown; later = rests_later }
