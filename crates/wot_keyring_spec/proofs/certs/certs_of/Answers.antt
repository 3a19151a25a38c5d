use Rattle.std.proofs.Common.{◌≡◌, [], ◌∷◌, None, map, ap, ◌∙◌, refl}
use Rattle.wot_types.specs.declared.fpr.Fpr.{Fpr}
use Rattle.wot_keyring_spec.specs.From.{entries_from}
use Rattle.wot_keyring_spec.specs.declared.kept.Kept.{Kept}
use Rattle.wot_keyring_spec.specs.Keyring.{Entries}
use Rattle.wot_keyring_spec.proofs.certs.certs_of.Goals as goal

-- without a first fingerprint, these are all entries
all_from : (es : Entries) → entries_from None es ≡ es
all_from [] = refl
all_from (e ∷ es) = ap (λ (rest : Entries). e ∷ rest) (all_from es)

pub returns : goal.returns
returns c = record {
  certs = c.listed_from.ensures.certs
      ∙ ap (map (λ (e : Fpr × Kept). e.1.cert)) (all_from c.args.certs.now.entries);
}
