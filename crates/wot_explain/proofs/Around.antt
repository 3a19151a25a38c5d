-- What agrees at a certificate and at those who certified it is explained alike.
use Rattle.std.proofs.Common.{◌≡◌, ℕ, Bool, true, false, List, [], ◌∷◌, ◌++◌, map, Option, Some, None, refl, ap, subst}
use Rattle.std.proofs.Common.{◌∙◌, zero, suc}
use Rattle.std.specs.Prelude.{is_some, not, filter}
use Rattle.std.specs.List.{AllByRecursion, slice_get}
use Rattle.std.specs.Map.{lookup}
use Rattle.std.specs.Option.{option_and_then, option_map}
use Rattle.std.specs.Ordering.{is_eq}
use Rattle.wot_types.specs.declared.fpr.Fpr.{Fpr}
use Rattle.wot_types.specs.PlainLaws.{all_prefix, all_back, all_each}
use Rattle.wot_verdict.specs.Verdicts.{Entries, verdict_at}
use Rattle.wot_verdict.specs.declared.verdict.Verdict.{Verdict}
use Rattle.wot_component.specs.Certificate.{Certificate, Component, Signature, sig_cmp}
use Rattle.wot_component.specs.Counts.{all_sigs, parts_in, sigs_on}
use Rattle.wot_component.specs.Judged.{is_sound}
use Rattle.wot_cert.specs.Issuer.{good_by}
use Rattle.wot_cert.specs.Time.{made_of}
use Rattle.wot_edge.specs.Path.{step_of}
use Rattle.wot_edge.specs.declared.path.Step.{Step}
use Rattle.wot_keyring_spec.specs.Keyring.{Certificates, is_fpr}
use Rattle.wot_keyring_spec.specs.Later.{SaysSame}
use Rattle.wot_live.specs.Edge.{edge_by}
use Rattle.wot_network.specs.Local.{AgreeAt}
use Rattle.wot_network.specs.Standings.{DecideStandings, DecideUserIds}
use Rattle.wot_network.specs.Records.{user_id_place}
use Rattle.wot_standing.specs.Kinds.{is_certification}
use Rattle.wot_standing.specs.Own.{is_own_revoked}
use Rattle.wot_standing.specs.Standing.{own, standing_of}
use Rattle.wot_standing.specs.declared.status.Standing.{Standing}
use Rattle.wot_explain.specs.Around.{AgreeAround, AgreeAtIssuer}
use Rattle.wot_explain.specs.Explaining.{explained_at, explained_on, explanation, reasons_on}
use Rattle.wot_explain.specs.Reasons.{Reason, issuer_standing, issuer_words, is_revoked_by, is_older_by, reason_of}
use Rattle.wot_explain.specs.Reasons.{reason_with, reason_word, reason_words, standing_by, step_by, time_words}
use Rattle.wot_explain.specs.Reasons.{counting_words}
use Rattle.wot_explain.specs.Target.{target_word}
use Rattle.wot_explain.specs.Words.{Word, first_word, is_so}
use Rattle.wot_explain.specs.declared.explained.Explained.{Explained}

-- ---- lists

all_both : {A : Type 0} (P Q : A → Type 0) (xs : List A) → AllByRecursion P xs → AllByRecursion Q xs
    → AllByRecursion (λ x. P x × Q x) xs
all_both P Q [] p q = tt
all_both P Q (x ∷ xs) p q = ((p.0, q.0), all_both P Q xs p.1 q.1)

at_place : {A : Type 0} (P : A → Type 0) (x : A) (xs : List A) → AllByRecursion P xs → (place : ℕ)
    → slice_get xs place ≡ Some x → P x
at_place P x [] all n e = absurd cc
at_place P x (y ∷ ys) all zero e = let same : y ≡ x = cc in subst P same all.0
at_place P x (y ∷ ys) all (suc n) e = at_place P x ys all.1 n e

map_filter_same : {A B : Type 0} (P : A → Type 0) (keep : A → Bool) (f g : A → B) → ((x : A) → P x → f x ≡ g x)
    → (xs : List A) → AllByRecursion P xs → map f (filter keep xs) ≡ map g (filter keep xs)
map_filter_same P keep f g same [] all = refl
map_filter_same P keep f g same (x ∷ xs) all = by (map_filter_same P keep f g same xs all.1) (keep x) refl
  where
    by : map f (filter keep xs) ≡ map g (filter keep xs) → (b : Bool) → keep x ≡ b
        → map f (filter keep (x ∷ xs)) ≡ map g (filter keep (x ∷ xs))
    by rest true e = rw e (rw (same x all.0, rest) refl)
    by rest false e = rw e rest

module _ (standings : DecideStandings) (user_ids : DecideUserIds)
    (certs : Certificates) (verdicts : Entries) (others : Certificates) (other : Entries) (t : ℕ) where
  abbrev AgreesOf : Signature → Type 0
  AgreesOf s = SaysSame verdicts other s × AgreeAtIssuer certs verdicts others other s

  -- ---- the issuer

  standing_by_same : (issuer : Fpr) → AgreeAt certs verdicts others other issuer
      → standing_by verdicts certs t issuer ≡ standing_by other others t issuer
  standing_by_same issuer agree =
      by (lookup (is_fpr issuer) certs) refl
      ∙ ap (option_map (λ (c : Certificate). standing_of other c t)) agree.same
    where
      by : (o : Option Certificate) → lookup (is_fpr issuer) certs ≡ o
          → option_map (λ (c : Certificate). standing_of verdicts c t) o
          ≡ option_map (λ (c : Certificate). standing_of other c t) o
      by None e = refl
      by (Some c) e = ap (λ (s : Standing). Some s) (standings verdicts other c t (agree.said c e))

  issuer_same : (s : Signature) → AgreeAtIssuer certs verdicts others other s
      → issuer_standing verdicts certs t (verdict_at verdicts s.number)
      ≡ issuer_standing other others t (verdict_at verdicts s.number)
  issuer_same s agree = by (good_by (verdict_at verdicts s.number)) refl
    where
      by : (o : Option Fpr) → good_by (verdict_at verdicts s.number) ≡ o
          → option_and_then (standing_by verdicts certs t) o ≡ option_and_then (standing_by other others t) o
      by None e = refl
      by (Some issuer) e = standing_by_same issuer (agree issuer e)

  -- ---- one certification

  module _ (uid : Component) (on : AllByRecursion (SaysSame verdicts other) uid.sigs) where
    time_same : (s : Signature) (o : Option Fpr) → time_words verdicts t uid s o ≡ time_words other t uid s o
    time_same s None = refl
    time_same s (Some issuer) =
        let gives = user_ids verdicts other issuer t uid on in
        let revoked : is_revoked_by verdicts t uid s issuer ≡ is_revoked_by other t uid s issuer =
        ap not (gives.unrevoked s) in
        let older : is_older_by verdicts t uid s issuer ≡ is_older_by other t uid s issuer =
        ap (λ (o : Option Signature). not (is_so (λ newest. is_eq (sig_cmp s newest)) o)) gives.newest in
        rw (revoked, older) refl

    word_same : (s : Signature) → AgreesOf s
        → reason_word verdicts certs t uid s ≡ reason_word other others t uid s
    word_same s agree =
        ap (λ (standing : Option Standing). first_word (reason_words verdicts t uid s (verdict_at verdicts s.number)
        standing))
        (issuer_same s agree.1)
        ∙ ap (λ (said : Option Verdict). first_word
        (reason_words verdicts t uid s said (issuer_standing other others t said)))
        agree.0
        ∙ ap (λ (words : List Word). first_word ((1, not (is_sound s)) ∷ (2, not (is_some (verdict_at other s.number)))
        ∷ (3, not (is_some (good_by (verdict_at other s.number))))
        ∷ counting_words s (good_by (verdict_at other s.number)) ++ words
        ++ issuer_words (made_of s) (issuer_standing other others t (verdict_at other s.number))))
        (time_same s (good_by (verdict_at other s.number)))

    step_same : (target : Fpr) (place : ℕ) (s : Signature) → AgreesOf s
        → step_by verdicts target place uid s ≡ step_by other target place uid s
    step_same target place s agree =
        ap (λ (said : Option Verdict). option_map step_of
        (option_and_then (λ issuer. edge_by issuer target place uid.sigs s) (good_by said))) agree.0

    reason_same : (target : Fpr) (place : ℕ) (s : Signature) → AgreesOf s
        → reason_of verdicts certs t target place uid s ≡ reason_of other others t target place uid s
    reason_same target place s agree =
        ap (λ (word : ℕ). reason_with s word (step_by verdicts target place uid s)) (word_same s agree)
        ∙ ap (λ (step : Option Step). reason_with s (reason_word other others t uid s) step)
        (step_same target place s agree)

  -- ---- one user ID

  explained_same : (c : Certificate) (place : ℕ) (uid : Component) → AllByRecursion (SaysSame verdicts other)
      (all_sigs c)
      → AllByRecursion (SaysSame verdicts other) uid.sigs → AllByRecursion AgreesOf uid.sigs
      → explained_on verdicts certs t c place uid ≡ explained_on other others t c place uid
  explained_same c place uid all on agree =
      let standing = standings verdicts other c t all in
      let revoked = (user_ids verdicts other (own c) t uid on).revoked in
      let reasons : reasons_on verdicts certs t (own c) place uid ≡ reasons_on other others t (own c) place uid =
      map_filter_same AgreesOf is_certification (reason_of verdicts certs t (own c) place uid)
      (reason_of other others t (own c) place uid) (reason_same uid on (own c) place) uid.sigs agree in
      ap (λ (s : Standing). with_parts (target_word s t (is_own_revoked verdicts (own c) t uid))
      (reasons_on verdicts certs t (own c) place uid)) standing
      ∙ ap (λ (b : Bool). with_parts (target_word (standing_of other c t) t b)
      (reasons_on verdicts certs t (own c) place uid)) revoked
      ∙ ap (λ (rs : List Reason). with_parts (target_word (standing_of other c t) t
      (is_own_revoked other (own c) t uid)) rs) reasons
    where
      with_parts : ℕ → List Reason → Explained
      with_parts word reasons = record { target = word; certs = reasons }

  -- ---- a certificate

  uids_of : (P : Signature → Type 0) (c : Certificate) → AllByRecursion P (all_sigs c)
      → AllByRecursion (λ (p : Component). AllByRecursion P p.sigs) c.user_ids
  uids_of P c h =
      let parts = all_each P (λ (p : Component). p.sigs) (parts_in c) (all_back P c.direct (sigs_on (parts_in c)) h) in
      all_prefix (λ (p : Component). AllByRecursion P p.sigs) c.user_ids c.attributes
      (all_prefix (λ (p : Component). AllByRecursion P p.sigs) (c.user_ids ++ c.attributes) c.subkeys parts)

  at_same : (c : Certificate) → AllByRecursion (SaysSame verdicts other) (all_sigs c)
      → AllByRecursion (AgreeAtIssuer certs verdicts others other) (all_sigs c) → (place : ℕ)
      → explained_at verdicts certs t c place ≡ explained_at other others t c place
  at_same c said issuers place = by (slice_get c.user_ids place) refl
    where
      by : (o : Option Component) → slice_get c.user_ids place ≡ o
          → option_map (explained_on verdicts certs t c place) o ≡ option_map (explained_on other others t c place) o
      by None e = refl
      by (Some uid) e =
          let on = at_place (λ (p : Component). AllByRecursion (SaysSame verdicts other) p.sigs) uid c.user_ids
          (uids_of (SaysSame verdicts other) c said) place e in
          let agree = at_place (λ (p : Component). AllByRecursion AgreesOf p.sigs) uid c.user_ids
          (uids_of AgreesOf c (all_both (SaysSame verdicts other) (AgreeAtIssuer certs verdicts others other)
          (all_sigs c) said issuers)) place e in
          ap (λ (x : Explained). Some x) (explained_same c place uid said on agree)

  found_same : (fpr : Fpr) (u : List ℕ) → AgreeAround certs verdicts others other fpr
      → explanation certs verdicts t fpr u ≡ explanation others other t fpr u
  found_same fpr u agree =
      by (lookup (is_fpr fpr) certs) refl
      ∙ ap (option_and_then (λ (c : Certificate). option_and_then (explained_at other others t c)
      (user_id_place u c.user_ids)))
      agree.here.same
    where
      by : (o : Option Certificate) → lookup (is_fpr fpr) certs ≡ o
          → option_and_then (λ (c : Certificate). option_and_then (explained_at verdicts certs t c)
          (user_id_place u c.user_ids)) o
          ≡ option_and_then (λ (c : Certificate). option_and_then (explained_at other others t c)
          (user_id_place u c.user_ids)) o
      by None e = refl
      by (Some c) e = placed (user_id_place u c.user_ids)
        where
          placed : (o : Option ℕ) → option_and_then (explained_at verdicts certs t c) o ≡ option_and_then
              (explained_at other others t c) o
          placed None = refl
          placed (Some place) = at_same c (agree.here.said c e) (agree.issuers c e) place

pub explained_alike : DecideStandings → DecideUserIds
    → (certs : Certificates) (verdicts : Entries) (others : Certificates) (other : Entries) (t : ℕ) (fpr : Fpr)
    (u : List ℕ) → AgreeAround certs verdicts others other fpr
    → explanation certs verdicts t fpr u ≡ explanation others other t fpr u
explained_alike standings user_ids certs verdicts others other t fpr u agree =
    found_same standings user_ids certs verdicts others other t fpr u agree
