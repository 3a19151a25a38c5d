use Rattle.std.proofs.Common.{rules}
use Rattle.wot_command.proofs.CertificateLines.{found}
use Rattle.wot_command.proofs.listing.cert_of.Goals as goal

pub returns : goal.returns
returns c = search (rules, found)
