-- The removal of a certificate. The verdicts on its signatures stay.
use Rattle.std.specs.Prelude.{◌+◌}
use Rattle.std.specs.Map.{remove_entry}
use Rattle.wot_types.specs.declared.fpr.Fpr.{Fpr}
use Rattle.wot_keyring_spec.specs.Keyring.{Keyring, is_fpr}

-- the keyring without the certificate of this fingerprint, which it had
abbrev pub without_cert : Fpr → Keyring → Keyring
without_cert fpr k = record {
  limits = k.limits;
  certs = remove_entry (is_fpr fpr) k.certs;
  verdicts = k.verdicts;
  changes = k.changes + 1;
}
