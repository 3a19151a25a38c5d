use Rattle.std.proofs.Common.{subst}
use Rattle.wot_keyring_spec.specs.Keyring.{Keyring}
use Rattle.wot_merge.specs.Staging.{IsTally}
use Rattle.wot_keyring.proofs.ImportEffects.{tally_of}
use Rattle.wot_keyring.proofs.keyring.Keyring.total.Goals as goal

pub returns-clause-total : goal.returns-clause-total
returns-clause-total c =
    subst (λ (k : Keyring). IsTally k.limits.certificate k.certs (record {
      octets = c.self.inside.octets;
      signatures =
          c.self.inside.signatures;
      long = 0;
    })) c.self.view_is
    (tally_of _ c.self.inside.octets c.self.inside.signatures c.self.invariant.0 c.self.invariant.1)
