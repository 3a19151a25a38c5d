use Rattle.wot_network.proofs.Newly.{fits_new}
use Rattle.wot_network.proofs.network.Network.new.Goals as goal

pub returns-clause-fits : goal.returns-clause-fits
returns-clause-fits c k = fits_new k c.args.t c.new.result.entries c.new.ensures.empty
