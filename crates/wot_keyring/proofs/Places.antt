-- What is found in entries.
use Rattle.std.proofs.Common.{◌≡◌, true, false, cond, [], ◌∷◌, Some, refl, sym, ap, ◌∙◌}
use Rattle.std.specs.Map.{lookup}
use Rattle.wot_types.specs.declared.fpr.Fpr.{Fpr}
use Rattle.wot_types.specs.FprLaws.{same_fpr-true}
use Rattle.wot_key.specs.Key.{fpr_of}
use Rattle.wot_keyring_spec.specs.declared.kept.Kept.{Kept}
use Rattle.wot_keyring_spec.specs.Keyring.{Entries, is_fpr}
use Rattle.wot_keyring_spec.specs.Kept.{AreNamed}

-- what is found is under the fingerprint of its key
pub found_named : (fpr : Fpr) (es : Entries) (kept : Kept) → AreNamed es → lookup (is_fpr fpr) es ≡ Some kept →
    fpr_of kept.cert.key ≡ fpr
found_named fpr [] kept all found = absurd cc
found_named fpr (e ∷ es) kept all found =
    (elim (is_fpr fpr e.0) as (λ b. is_fpr fpr e.0 ≡ b → cond b (Some e.1) (lookup (is_fpr fpr) es) ≡ Some kept →
    fpr_of kept.cert.key ≡ fpr) [
      | true ↦ λ t f. let same : e.1 ≡ kept = cc in ap (λ (x : Kept). fpr_of x.cert.key) (sym same)
          ∙ sym (same_fpr-true fpr e.0 t ∙ all.0)
      | false ↦ λ t f. found_named fpr es kept all.1 f
    ]) refl found
