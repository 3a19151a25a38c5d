-- If no signature counts as an issuer's, none is valid as the issuer's.
use Rattle.std.proofs.Common.{◌≡◌, ℕ, Bool, true, false, cond, ◌&&◌, ◌||◌, List, [], ◌∷◌, None, refl, ap, ◌∙◌}
use Rattle.std.specs.Prelude.{filter}
use Rattle.std.specs.List.{list_any}
use Rattle.wot_types.specs.declared.fpr.Fpr.{Fpr}
use Rattle.wot_verdict.specs.Verdicts.{Entries}
use Rattle.wot_component.specs.Certificate.{Signature, Component}
use Rattle.wot_cert.specs.Issuer.{counts_by}
use Rattle.wot_component.specs.Ranked.{greatest}
use Rattle.wot_cert.specs.Revoked.{is_unrevoked}
use Rattle.wot_cert.specs.Time.{is_live, newness}
use Rattle.wot_standing.specs.declared.kinds.Binding.TheVariants.{Certification}
use Rattle.wot_standing.specs.Kinds.{is_binding}
use Rattle.wot_standing.specs.Standing.{newest_certification}
use Rattle.wot_standing.specs.Valid.{is_valid}

none_true : (a b : Bool) → (a || b) ≡ false → (a ≡ false) × (b ≡ false)
none_true true b e = absurd cc
none_true false b e = (refl, e)

and_false : (a b : Bool) → (a && (false && b)) ≡ false
and_false true b = refl
and_false false b = refl

none_valid : (verdicts : Entries) (issuer : Fpr) (t : ℕ) (sigs ss : List Signature)
    → list_any (counts_by verdicts issuer) ss ≡ false → filter (is_valid verdicts issuer t Certification sigs) ss ≡ []
none_valid verdicts issuer t sigs [] h = refl
none_valid verdicts issuer t sigs (s ∷ ss) h =
    let none = none_true (counts_by verdicts issuer s) (list_any (counts_by verdicts issuer) ss) h in
    let rest = filter (is_valid verdicts issuer t Certification sigs) ss in
    ap (λ b. cond (is_binding Certification s && (b && (is_live t s && is_unrevoked verdicts issuer t sigs s)))
    (s ∷ rest) rest) none.0
    ∙ ap (λ b. cond b (s ∷ rest) rest)
    (and_false (is_binding Certification s) (is_live t s && is_unrevoked verdicts issuer t sigs s))
    ∙ none_valid verdicts issuer t sigs ss none.1

pub only_counting : (verdicts : Entries) (t : ℕ) (issuer : Fpr) (uid : Component)
    → list_any (counts_by verdicts issuer) uid.sigs ≡ false → newest_certification verdicts issuer t uid ≡ None
only_counting verdicts t issuer uid h = ap (greatest newness) (none_valid verdicts issuer t uid.sigs uid.sigs h)
