-- What one signature changes in the numbers that are kept for issuers.
use Rattle.std.proofs.Common.{◌≡◌, ℕ, Bool, true, false, cond, ◌&&◌, max, List, ◌∷◌, Option, Some, None, refl, sym}
use Rattle.std.proofs.Common.{ap, subst, ◌∙◌}
use Rattle.std.specs.Prelude.{filter}
use Rattle.std.specs.Option.{option_map_or, option_and_then}
use Rattle.wot_types.specs.declared.fpr.Fpr.{Fpr}
use Rattle.wot_types.specs.Fpr.{same_fpr}
use Rattle.wot_types.specs.FprLaws.{same_fpr-true, same_fpr-refl, same_fpr-sym}
use Rattle.wot_verdict.specs.Verdicts.{Entries}
use Rattle.wot_component.specs.Certificate.{Signature}
use Rattle.wot_cert.specs.Issuer.{issuer_of}
use Rattle.wot_component.specs.Ranked.{greatest, higher_of}
use Rattle.wot_cert.specs.Revoked.{revokes_by, has_kind}
use Rattle.wot_cert.specs.Time.{made_of, is_live, newness}
use Rattle.wot_standing.specs.declared.kinds.Binding.TheVariants.{Certification}
use Rattle.wot_standing.specs.Kinds.{is_certification}
use Rattle.wot_standing.specs.Latest.{revoked_at, stays, is_valid_after}
use Rattle.wot_standing.specs.Certifiers.{certifier_of, later_by, newer_by, revoker_of}

-- ---- one issuer's value changes

module _ {X : Type 0} (issuer : Fpr) (old : Fpr → X) (step : Fpr → X → X)
    (others : (q : Fpr) → same_fpr issuer q ≡ false → (x : X) → step q x ≡ x) where
  pub changed : (new : Fpr → X) (w : X) → ((q : Fpr) → new q ≡ cond (same_fpr issuer q) w (old q))
      → w ≡ step issuer (old issuer) → (q : Fpr) → new q ≡ step q (old q)
  changed new w h e q = by (same_fpr issuer q) refl (h q)
    where
      by : (b : Bool) → same_fpr issuer q ≡ b → new q ≡ cond b w (old q) → new q ≡ step q (old q)
      by true f g = g ∙ subst (λ p. w ≡ step p (old p)) (same_fpr-true issuer q f) e
      by false f g = g ∙ sym (others q f (old q))

  pub unchanged : step issuer (old issuer) ≡ old issuer → (q : Fpr) → old q ≡ step q (old q)
  unchanged e q = by (same_fpr issuer q) refl
    where
      by : (b : Bool) → same_fpr issuer q ≡ b → old q ≡ step q (old q)
      by true f = subst (λ p. old p ≡ step p (old p)) (same_fpr-true issuer q f) (sym e)
      by false f = sym (others q f (old q))

-- ---- whose it is

and_false : (a : Bool) → (a && false) ≡ false
and_false true = refl
and_false false = refl

and_true : (a : Bool) → (a && true) ≡ a
and_true true = refl
and_true false = refl

-- It counts for a key if that key is the one by whom it counts, among those that pass the other tests.
by_one : (kind live : Bool) (issuer : Option Fpr) (q : Fpr)
    → (kind && (option_map_or (same_fpr q) issuer false && live)) ≡ option_map_or (same_fpr q)
    (cond (kind && live) issuer None) false
by_one false live issuer q = refl
by_one true false issuer q = and_false (option_map_or (same_fpr q) issuer false)
by_one true true issuer q = and_true (option_map_or (same_fpr q) issuer false)

by_one_staying : (kind live stay : Bool) (issuer : Option Fpr) (q : Fpr)
    → (kind && (option_map_or (same_fpr q) issuer false && (live && stay))) ≡ (option_map_or (same_fpr q)
    (cond (kind && live) issuer None) false && stay)
by_one_staying false live stay issuer q = refl
by_one_staying true false stay issuer q = and_false (option_map_or (same_fpr q) issuer false)
by_one_staying true true stay issuer q = refl

pub revokes_as : (verdicts : Entries) (q : Fpr) (t : ℕ) (s : Signature) (by : Option Fpr) → by ≡ revoker_of verdicts t s
    → revokes_by verdicts q t s ≡ option_map_or (same_fpr q) by false
revokes_as verdicts q t s by e =
    by_one (has_kind 48 s) (is_live t s) (issuer_of verdicts s) q
    ∙ ap (λ o. option_map_or (same_fpr q) o false) (sym e)

pub valid_as : (verdicts : Entries) (q : Fpr) (t : ℕ) (revoked : Option ℕ) (s : Signature) (by : Option Fpr) (stay : Bool)
    → by ≡ certifier_of verdicts t s → stay ≡ stays revoked s
    → is_valid_after verdicts q t Certification revoked s ≡ (option_map_or (same_fpr q) by false && stay)
valid_as verdicts q t revoked s by stay e f =
    by_one_staying (is_certification s) (is_live t s) (stays revoked s) (issuer_of verdicts s) q
    ∙ ap (λ o. option_map_or (same_fpr q) o false && stays revoked s) (sym e)
    ∙ ap (λ b. option_map_or (same_fpr q) by false && b) (sym f)

-- the key by whom it counts is that key
by_itself : (issuer : Fpr) → option_map_or (same_fpr issuer) (Some issuer) false ≡ true
by_itself issuer = same_fpr-refl issuer

-- ---- what a key's becomes

pub not_later : (verdicts : Entries) (issuer : Fpr) (t : ℕ) (s : Signature) (best : Option ℕ)
    → revokes_by verdicts issuer t s ≡ false → later_by verdicts issuer t s best ≡ best
not_later verdicts issuer t s best h = ap (λ b. cond b (Some (option_map_or (max (made_of s)) best (made_of s))) best) h

pub is_later : (verdicts : Entries) (issuer : Fpr) (t : ℕ) (s : Signature) (best number : Option ℕ) (made most : ℕ)
    → Some issuer ≡ revoker_of verdicts t s → made ≡ made_of s → number ≡ best
    → most ≡ option_map_or (max made) number made → Some most ≡ later_by verdicts issuer t s best
is_later verdicts issuer t s best number made most h m n e =
    ap Some (e ∙ ap (λ m. option_map_or (max m) number m) m ∙ ap (λ n. option_map_or (max (made_of s)) n (made_of s)) n)
    ∙ sym (ap (λ b. cond b (Some (option_map_or (max (made_of s)) best (made_of s))) best)
    (revokes_as verdicts issuer t s (Some issuer) h ∙ by_itself issuer))

newer_as : (verdicts : Entries) (issuer : Fpr) (t : ℕ) (sigs : List Signature) (s : Signature) (best : Option Signature)
    (revoked : Option ℕ) (valid : Bool)
    → revoked ≡ revoked_at verdicts issuer t sigs → is_valid_after verdicts issuer t Certification revoked s ≡ valid
    → newer_by verdicts issuer t sigs s best ≡ cond valid (higher_of newness s best) best
newer_as verdicts issuer t sigs s best revoked valid r h =
    ap (λ b. cond b (higher_of newness s best) best)
    (ap (λ r. is_valid_after verdicts issuer t Certification r s) (sym r) ∙ h)

pub not_newer : (verdicts : Entries) (issuer : Fpr) (t : ℕ) (sigs : List Signature) (s : Signature)
    (best : Option Signature) (revoked : Option ℕ)
    → revoked ≡ revoked_at verdicts issuer t sigs → is_valid_after verdicts issuer t Certification revoked s ≡ false
    → newer_by verdicts issuer t sigs s best ≡ best
not_newer verdicts issuer t sigs s best revoked r h = newer_as verdicts issuer t sigs s best revoked false r h

pub is_newer : (verdicts : Entries) (issuer : Fpr) (t : ℕ) (sigs : List Signature) (s : Signature)
    (best kept then : Option Signature) (revoked : Option ℕ)
    → revoked ≡ revoked_at verdicts issuer t sigs → is_valid_after verdicts issuer t Certification revoked s ≡ true
    → kept ≡ best → higher_of newness s kept ≡ then → newer_by verdicts issuer t sigs s best ≡ then
is_newer verdicts issuer t sigs s best kept then revoked r h k e =
    newer_as verdicts issuer t sigs s best revoked true r h ∙ ap (higher_of newness s) (sym k) ∙ e

-- ---- what others keep

by_other : (issuer q : Fpr) → same_fpr issuer q ≡ false → option_map_or (same_fpr q) (Some issuer) false ≡ false
by_other issuer q h = same_fpr-sym q issuer ∙ h

pub others_later : (verdicts : Entries) (t : ℕ) (s : Signature) (issuer : Fpr) → Some issuer ≡ revoker_of verdicts t s
    → (q : Fpr) → same_fpr issuer q ≡ false → (best : Option ℕ) → later_by verdicts q t s best ≡ best
others_later verdicts t s issuer e q h best =
    not_later verdicts q t s best (revokes_as verdicts q t s (Some issuer) e ∙ by_other issuer q h)

pub none_later : (verdicts : Entries) (t : ℕ) (s : Signature) → None ≡ revoker_of verdicts t s → (q : Fpr)
    → (best : Option ℕ) → later_by verdicts q t s best ≡ best
none_later verdicts t s e q best = not_later verdicts q t s best (revokes_as verdicts q t s None e)

pub others_newer : (verdicts : Entries) (t : ℕ) (sigs : List Signature) (s : Signature) (issuer : Fpr)
    → Some issuer ≡ certifier_of verdicts t s
    → (q : Fpr) → same_fpr issuer q ≡ false → (best : Option Signature) → newer_by verdicts q t sigs s best ≡ best
others_newer verdicts t sigs s issuer e q h best =
    let revoked = revoked_at verdicts q t sigs in
    not_newer verdicts q t sigs s best revoked refl
    (valid_as verdicts q t revoked s (Some issuer) (stays revoked s) e refl
    ∙ ap (λ b. b && stays revoked s) (by_other issuer q h))

pub none_newer : (verdicts : Entries) (t : ℕ) (sigs : List Signature) (s : Signature) → None ≡ certifier_of verdicts t s
    → (q : Fpr) → (best : Option Signature) → newer_by verdicts q t sigs s best ≡ best
none_newer verdicts t sigs s e q best =
    let revoked = revoked_at verdicts q t sigs in
    not_newer verdicts q t sigs s best revoked refl
    (valid_as verdicts q t revoked s None (stays revoked s) e refl)

-- its issuer's signature is valid if it stays
pub valid_by : (verdicts : Entries) (issuer : Fpr) (t : ℕ) (revoked : Option ℕ) (s : Signature) (stay : Bool)
    → Some issuer ≡ certifier_of verdicts t s → stay ≡ stays revoked s
    → is_valid_after verdicts issuer t Certification revoked s ≡ stay
valid_by verdicts issuer t revoked s stay e f =
    valid_as verdicts issuer t revoked s (Some issuer) stay e f ∙ ap (λ b. b && stay) (by_itself issuer)

-- ---- lists

pub found_at : {X : Type 0} (f : ℕ → Option X) (b : Bool) (at : ℕ) (o : Option ℕ)
    → option_and_then f (cond b (Some at) o) ≡ cond b (f at) (option_and_then f o)
found_at f true at o = refl
found_at f false at o = refl

pub greatest_more : (p : Signature → Bool) (s : Signature) (seen : List Signature)
    → cond (p s) (higher_of newness s (greatest newness (filter p seen))) (greatest newness (filter p seen)) ≡ greatest
    newness (filter p (s ∷ seen))
greatest_more p s seen =
    elim (p s) as
    (λ b. cond b (higher_of newness s (greatest newness (filter p seen))) (greatest newness (filter p seen)) ≡ greatest
    newness (cond b (s ∷ filter p seen) (filter p seen))) [ true ↦ refl | false ↦ refl ]
