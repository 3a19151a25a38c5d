use Rattle.wot_keyring_spec.specs.Keyring.{certificates_in}
use Rattle.wot_network.proofs.Fprs.{named_certs}
use Rattle.wot_network.proofs.network.Network.roads.Goals as goal

pub returns-clause-entries : goal.returns-clause-entries
returns-clause-entries c u = c.record_is_lawful.ensures.ordered (certificates_in c.args.keyring.now)
    c.args.keyring.now.verdicts c.args.self.now.time u (named_certs c.args.keyring.now.certs c.ordered.ensures.named)

pub returns-clause-lawful : goal.returns-clause-lawful
returns-clause-lawful c u = c.record_is_lawful.ensures.lawful (certificates_in c.args.keyring.now)
    c.args.keyring.now.verdicts c.args.self.now.time u (named_certs c.args.keyring.now.certs c.ordered.ensures.named)

pub returns-clause-local : goal.returns-clause-local
returns-clause-local c = c.records_agree.ensures.local (certificates_in c.args.keyring.now) c.args.keyring.now.verdicts
    c.args.self.now.time
