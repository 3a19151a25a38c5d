-- A signature that names another key as its issuer doesn't count as this one's.
use Rattle.std.proofs.Common.{◌≡◌, Bool, true, false, ◌&&◌, cond, Option, Some, None, refl, sym, subst, ◌∙◌}
use Rattle.std.specs.Option.{option_map_or}
use Rattle.std.proofs.lemmas.Bool.{true≢false}
use Rattle.wot_types.specs.declared.fpr.Fpr.{Fpr}
use Rattle.wot_types.specs.Fpr.{same_fpr}
use Rattle.wot_types.specs.FprLaws.{same_fpr-true}
use Rattle.wot_signature.specs.declared.facts.SigFacts.{SigFacts}
use Rattle.wot_cert.specs.Issuer.{allows, issuer_with}

and_second : (a b : Bool) → (a && b) ≡ true → b ≡ true
and_second true b e = e
and_second false b e = absurd (true≢false (sym e))

counted_as : (facts : SigFacts) (q fpr : Fpr) (both same : Bool) → allows facts.issuer q ≡ false
    → (facts.sound && allows facts.issuer fpr) ≡ both → same_fpr q fpr ≡ same
    → option_map_or (same_fpr q) (cond both (Some fpr) None) false ≡ false
counted_as facts q fpr false same h e g = refl
counted_as facts q fpr true false h e g = g
counted_as facts q fpr true true h e g =
    absurd (true≢false (sym (subst (λ k. allows facts.issuer k ≡ true) (sym (same_fpr-true q fpr g))
    (and_second facts.sound (allows facts.issuer fpr) e)) ∙ h))

pub not_by : (facts : Option SigFacts) (admitted : Bool) (by : Option Fpr) (q : Fpr)
    → option_map_or (λ f. allows f.issuer q) facts false ≡ false
    → option_map_or (same_fpr q) (issuer_with facts admitted by) false ≡ false
not_by None admitted by q h = refl
not_by (Some facts) false by q h = refl
not_by (Some facts) true None q h = refl
not_by (Some facts) true (Some fpr) q h =
    counted_as facts q fpr (facts.sound && allows facts.issuer fpr) (same_fpr q fpr) h refl refl
