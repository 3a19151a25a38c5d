use Rattle.wot_component.specs.Counts.{signatures_of}
use Rattle.wot_network.proofs.Current.{stale_some}
use Rattle.wot_network.proofs.laws.stale_are_some.Goals as goal

pub returns : goal.returns
returns c = record { some = λ marks t k. stale_some signatures_of marks t k.certs }
