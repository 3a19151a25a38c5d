use Rattle.wot_cert.proofs.Unchanged.{items-same, size-same}
use Rattle.wot_cert.proofs.laws.nothing_added.Goals as goal

pub returns : goal.returns
returns c = record { items = items-same; sizes = size-same }
