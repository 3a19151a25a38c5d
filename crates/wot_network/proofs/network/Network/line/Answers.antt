use Rattle.std.proofs.Common.{subst}
use Rattle.wot_network.specs.Net.{Net, AreLawful}
use Rattle.wot_network.proofs.network.Network.line.Goals as goal

pub returns-clause-lawful : goal.returns-clause-lawful
returns-clause-lawful c = subst (λ (n : Net). AreLawful n.lines) c.self.view_is c.self.invariant.0
