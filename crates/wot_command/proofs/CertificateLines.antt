-- The certificate of a fingerprint, and a line for each certificate.
use Rattle.std.proofs.Common.{◌≡◌, ℕ, ◌≤◌, List, [], ◌∷◌, length, map, refl, sym, ap, ◌∙◌}
use Rattle.std.proofs.lemmas.List.{length-map}
use Rattle.std.specs.List.{AllByRecursion}
use Rattle.std.specs.Map.{lookup}
use Rattle.std.proofs.lemmas.Map.Made.{lookup-map_values}
use Rattle.wot_types.specs.declared.fpr.Fpr.{Fpr}
use Rattle.wot_component.specs.Certificate.{Certificate}
use Rattle.wot_component.specs.Text.{size_of}
use Rattle.wot_keyring_spec.specs.declared.kept.Kept.{Kept}
use Rattle.wot_keyring_spec.specs.Keyring.{Keyring, Entries, certificates_in, cert_at, is_fpr}
use Rattle.wot_keyring_spec.specs.Kept.{AreSized}
use Rattle.wot_reply_lines.specs.declared.lines.KeyLine.{KeyLine}
use Rattle.wot_script.specs.declared.reply.Reply.TheVariants as replies
use Rattle.wot_plain.specs.Outcome.{key_line_of}

pub found : (k : Keyring) (fpr : Fpr) → cert_at k fpr ≡ lookup (is_fpr fpr) (certificates_in k)
found k fpr = sym (lookup-map_values (λ (x : Kept). x.cert) (is_fpr fpr) k.certs)

-- each certificate is within the limit
pub sized : (limit : ℕ) (es : Entries) → AreSized limit es → AllByRecursion (λ (c : Certificate). size_of c ≤ limit)
    (map (λ (e : Fpr × Kept). e.1.cert) es)
sized limit [] all = tt
sized limit (e ∷ es) all = (all.0, sized limit es all.1)

pub lines_bare : (es : Entries) → map key_line_of (map (λ (e : Fpr × Kept). e.1.cert) es) ≡ map
    (λ (e : Fpr × Certificate). key_line_of e.1) (map (λ (e : Fpr × Kept). (e.0, e.1.cert)) es)
lines_bare [] = refl
lines_bare (e ∷ es) = ap (λ (xs : List KeyLine). key_line_of e.1.cert ∷ xs) (lines_bare es)

pub keys_told : (k : Keyring) (lines : List KeyLine) →
    lines ≡ map key_line_of (map (λ (e : Fpr × Kept). e.1.cert) k.certs)
    → replies.Keys (length lines) lines ≡ replies.Keys (length (certificates_in k))
    (map (λ (e : Fpr × Certificate). key_line_of e.1) (certificates_in k))
keys_told k lines e =
    let same : lines ≡ map (λ (e : Fpr × Certificate). key_line_of e.1) (certificates_in k) = e ∙ lines_bare k.certs in
    rw (same, length-map (certificates_in k) (λ (e : Fpr × Certificate). key_line_of e.1)) refl
