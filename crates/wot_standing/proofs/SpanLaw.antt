-- What is live, and so the standing, doesn't change within a span.
use Rattle.std.proofs.Common.{◌≡◌, ℕ, ◌+◌, Bool, not, ◌&&◌, ◌||◌, List, [], ◌∷◌, ◌++◌, map, Option, refl, sym, ap, ◌∙◌}
use Rattle.std.specs.Prelude.{nat_lt, is_some}
use Rattle.std.specs.List.{AllByRecursion, list_all, list_any, filter_map}
use Rattle.std.specs.Option.{option_or}
use Rattle.wot_types.specs.declared.fpr.Fpr.{Fpr}
use Rattle.wot_types.specs.PlainLaws.{all_prefix, all_back, all_each, all_then, filter_same}
use Rattle.wot_verdict.specs.Verdicts.{Entries}
use Rattle.wot_component.specs.Certificate.{Signature, Component, Certificate}
use Rattle.wot_component.specs.Counts.{parts_in, sigs_on}
use Rattle.wot_cert.specs.Issuer.{counts_by}
use Rattle.wot_component.specs.Ranked.{greatest}
use Rattle.wot_cert.specs.Revoked.{has_kind, revokes_by, is_unrevoked, is_revocable}
use Rattle.wot_cert.specs.Span.{AreLiveAlike, created_of}
use Rattle.wot_cert.specs.Time.{is_live, made_of, newness}
use Rattle.wot_standing.specs.declared.kinds.Binding.{Binding}
use Rattle.wot_standing.specs.declared.kinds.Binding.TheVariants.{DirectKey, Certification}
use Rattle.wot_standing.specs.declared.status.Standing.{Standing}
use Rattle.wot_standing.specs.Kinds.{is_binding, is_soft}
use Rattle.wot_standing.specs.Own.{is_own_revoked}
use Rattle.wot_standing.specs.Standing.{own, primacy, newest_certification, primary_among, governing, end_by}
use Rattle.wot_standing.specs.Standing.{revokes_key, is_hard_revoked, is_soft_revocation, least_of, soft_moment}
use Rattle.wot_standing.specs.Standing.{standing_of}
use Rattle.wot_standing.specs.Steady.{Same, SameOn, IsSteady, SameBy}
use Rattle.wot_standing.specs.Valid.{is_valid, newest_valid}

-- ---- lists

list_all_same : {A : Type 0} (p q : A → Bool) (xs : List A) → AllByRecursion (λ x. p x ≡ q x) xs
    → list_all p xs ≡ list_all q xs
list_all_same p q [] h = refl
list_all_same p q (x ∷ xs) h = rw (h.0, list_all_same p q xs h.1) refl

pub list_any_same : {A : Type 0} (p q : A → Bool) (xs : List A) → AllByRecursion (λ x. p x ≡ q x) xs
    → list_any p xs ≡ list_any q xs
list_any_same p q [] h = refl
list_any_same p q (x ∷ xs) h = rw (h.0, list_any_same p q xs h.1) refl

filter_map_same : {A B : Type 0} (f g : A → Option B) (xs : List A) → AllByRecursion (λ x. f x ≡ g x) xs
    → filter_map f xs ≡ filter_map g xs
filter_map_same f g [] h = refl
filter_map_same f g (x ∷ xs) h = rw (h.0, filter_map_same f g xs h.1) refl

-- ---- live

-- The signatures are live at every time of a span or at none.
pub same_on : (c : Certificate) (t u : ℕ) → AreLiveAlike c t u → IsSteady c t u
same_on c t u each =
    let parts : AllByRecursion (SameOn t u) (parts_in c) =
    all_each (Same t u) (λ p. p.sigs) (parts_in c) (all_back (Same t u) c.direct (sigs_on (parts_in c)) each) in
    record {
      direct = all_prefix (Same t u) c.direct (sigs_on (parts_in c)) each;
      user_ids = all_prefix (SameOn t u) c.user_ids c.attributes
          (all_prefix (SameOn t u) (c.user_ids ++ c.attributes) c.subkeys parts);
    }

-- ---- valid

revokes_same : (verdicts : Entries) (fpr : Fpr) (t u : ℕ) (s : Signature) → Same t u s
    → revokes_by verdicts fpr t s ≡ revokes_by verdicts fpr u s
revokes_same verdicts fpr t u s h = ap (λ b. has_kind 48 s && (counts_by verdicts fpr s && b)) h

unrevoked_same : (verdicts : Entries) (fpr : Fpr) (t u : ℕ) (sigs : List Signature) → AllByRecursion (Same t u) sigs
    → (s : Signature) → is_unrevoked verdicts fpr t sigs s ≡ is_unrevoked verdicts fpr u sigs s
unrevoked_same verdicts fpr t u sigs h s =
    ap (λ b. not (is_revocable s) || b)
    (list_all_same (λ r. not (revokes_by verdicts fpr t r) || nat_lt (made_of r) (made_of s))
    (λ r. not (revokes_by verdicts fpr u r) || nat_lt (made_of r) (made_of s)) sigs
    (all_then (Same t u) _
    (λ r e. ap (λ b. not b || nat_lt (made_of r) (made_of s)) (revokes_same verdicts fpr t u r e)) sigs h))

is_valid_same : (verdicts : Entries) (fpr : Fpr) (t u : ℕ) (binding : Binding) (sigs : List Signature)
    → AllByRecursion (Same t u) sigs → (s : Signature) → Same t u s
    → is_valid verdicts fpr t binding sigs s ≡ is_valid verdicts fpr u binding sigs s
is_valid_same verdicts fpr t u binding sigs h s e =
    ap (λ b. is_binding binding s && (counts_by verdicts fpr s && (b && is_unrevoked verdicts fpr t sigs s))) e
    ∙ ap (λ b. is_binding binding s && (counts_by verdicts fpr s && (is_live u s && b)))
    (unrevoked_same verdicts fpr t u sigs h s)

pub newest_same : (verdicts : Entries) (fpr : Fpr) (t u : ℕ) (binding : Binding) (sigs : List Signature)
    → AllByRecursion (Same t u) sigs
    → newest_valid verdicts fpr t binding sigs ≡ newest_valid verdicts fpr u binding sigs
newest_same verdicts fpr t u binding sigs h =
    ap (greatest newness)
    (filter_same (is_valid verdicts fpr t binding sigs) (is_valid verdicts fpr u binding sigs) sigs
    (all_then (Same t u) _ (is_valid_same verdicts fpr t u binding sigs h) sigs h))

-- ---- standing

primary_same : (verdicts : Entries) (fpr : Fpr) (t u : ℕ) (uids : List Component) → AllByRecursion (SameOn t u) uids
    → primary_among verdicts fpr t uids ≡ primary_among verdicts fpr u uids
primary_same verdicts fpr t u uids h =
    ap (greatest primacy)
    (filter_map_same (newest_certification verdicts fpr t) (newest_certification verdicts fpr u) uids
    (all_then (SameOn t u) _ (λ p e. newest_same verdicts fpr t u Certification p.sigs e) uids h))

governing_same : (verdicts : Entries) (c : Certificate) (t u : ℕ) → IsSteady c t u
    → governing verdicts c t ≡ governing verdicts c u
governing_same verdicts c t u h =
    ap (λ o. option_or o (primary_among verdicts (own c) t c.user_ids))
    (newest_same verdicts (own c) t u DirectKey c.direct h.direct)
    ∙ ap (λ o. option_or (newest_valid verdicts (own c) u DirectKey c.direct) o)
    (primary_same verdicts (own c) t u c.user_ids h.user_ids)

soft_same : (verdicts : Entries) (fpr : Fpr) (t u : ℕ) (direct : List Signature) → AllByRecursion (Same t u) direct
    → soft_moment verdicts fpr t direct ≡ soft_moment verdicts fpr u direct
soft_same verdicts fpr t u direct h =
    ap (λ ss. least_of (map made_of ss))
    (filter_same (is_soft_revocation verdicts fpr t) (is_soft_revocation verdicts fpr u) direct
    (all_then (Same t u) _ (λ s e. ap (λ b. revokes_key verdicts fpr s && (is_soft s && b)) e) direct h))

with_parts : (verdicts : Entries) (c : Certificate) (t : ℕ) (by by' : Option Signature) (soft soft' : Option ℕ)
    → by ≡ by' → soft ≡ soft' →
    (let made : Option Signature → Option ℕ
    → Standing = λ g s. record {
      has = is_some g;
      created = created_of c;
      end = end_by (created_of c) g;
      hard = is_hard_revoked verdicts c;
      soft = s;
    } in made by soft ≡ made by' soft')
with_parts verdicts c t by by' soft soft' e f = rw (e, f) refl

-- The standing doesn't change within a span.
pub standing_same : (verdicts : Entries) (c : Certificate) (t u : ℕ) → AreLiveAlike c t u
    → standing_of verdicts c u ≡ standing_of verdicts c t
standing_same verdicts c t u h =
    let s = same_on c t u h in
    sym (with_parts verdicts c t (governing verdicts c t) (governing verdicts c u)
    (soft_moment verdicts (own c) t c.direct) (soft_moment verdicts (own c) u c.direct)
    (governing_same verdicts c t u s) (soft_same verdicts (own c) t u c.direct s.direct))

-- Whether a user ID is revoked by its own key doesn't change either.
pub own_revoked_same : (verdicts : Entries) (fpr : Fpr) (t u : ℕ) (uid : Component) → AllByRecursion (Same t u) uid.sigs
    → is_own_revoked verdicts fpr t uid ≡ is_own_revoked verdicts fpr u uid
own_revoked_same verdicts fpr t u uid h =
    ap (λ b. b && not (is_some (newest_certification verdicts fpr t uid)))
    (list_any_same (revokes_by verdicts fpr t) (revokes_by verdicts fpr u) uid.sigs
    (all_then (Same t u) _ (revokes_same verdicts fpr t u) uid.sigs h))
    ∙ ap (λ o. list_any (revokes_by verdicts fpr u) uid.sigs && not (is_some o))
    (newest_same verdicts fpr t u Certification uid.sigs h)

-- The certifications of each issuer on each user ID don't change within a span.
pub certifications_same : (c : Certificate) (t u : ℕ) → AreLiveAlike c t u → (verdicts : Entries) (issuer : Fpr)
    → AllByRecursion (SameBy verdicts issuer t u) c.user_ids
certifications_same c t u h verdicts issuer =
    all_then (SameOn t u) (SameBy verdicts issuer t u)
    (λ p e. record {
      certification = newest_same verdicts issuer t u Certification p.sigs e;
      revoked = own_revoked_same verdicts issuer t u p e;
    })
    c.user_ids (same_on c t u h).user_ids
