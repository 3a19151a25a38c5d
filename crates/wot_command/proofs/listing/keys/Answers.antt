use Rattle.std.proofs.Common.{◌∙◌, ap, map}
use Rattle.wot_types.specs.Limits.{standard_limits}
use Rattle.wot_types.specs.declared.fpr.Fpr.{Fpr}
use Rattle.wot_keyring_spec.specs.declared.kept.Kept.{Kept}
use Rattle.wot_keyring_spec.specs.Keyring.{Keyring}
use Rattle.wot_plain.specs.Outcome.{key_line_of}
use Rattle.wot_command.proofs.CertificateLines.{sized, keys_told}
use Rattle.wot_command.proofs.listing.keys.Goals as goal

pub key_lines-requires : goal.key_lines-requires
key_lines-requires c = rw c.certs.ensures.certs (sized standard_limits.certificate _ c.certs.ensures.sizes)

pub returns : goal.returns
returns c = record {
  keys = rw c.items.ensures.whole (keys_told c.args.engine.now.keyring c.in_ok-lines.lines (
      c.in_ok-lines.ensures.lines
      ∙ ap (map key_line_of) c.certs.ensures.certs
      ∙ ap (λ (k : Keyring). map key_line_of (map (λ (e : Fpr × Kept). e.1.cert) k.certs)) c.keyring.ensures.keyring
      ));
}
