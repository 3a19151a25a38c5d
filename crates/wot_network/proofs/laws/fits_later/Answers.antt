use Rattle.wot_network.proofs.Later.{fits_later}
use Rattle.wot_network.proofs.laws.fits_later.Goals as goal

pub returns : goal.returns
returns c = record { later = λ n old new fits later. fits_later old new later n fits }
