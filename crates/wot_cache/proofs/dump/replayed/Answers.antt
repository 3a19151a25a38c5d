use Rattle.wot_cache.proofs.Replay.{restored}
use Rattle.wot_cache.proofs.dump.replayed.Goals as goal

pub returns : goal.returns
returns c = λ rows engine is. restored rows engine is.keyring is.within is.roots is.sorted
