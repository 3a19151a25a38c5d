-- The reason of each certification on a user ID: whether it is a usable edge.
use Rattle.std.proofs.Common.{◌≡◌, ℕ, ◌==◌, Bool, true, false, if◌then◌else◌, cond, List, [], ◌∷◌, Some, None, refl}
use Rattle.std.proofs.Common.{sym, ap, subst, ◌∙◌, inl, inr}
use Rattle.std.specs.Prelude.{filter, is_some, map}
use Rattle.std.specs.List.{slice_get}
use Rattle.std.proofs.lemmas.Bool.{eqb-true, eq-eqb}
use Rattle.wot_types.specs.declared.fpr.Fpr.{Fpr}
use Rattle.wot_verdict.specs.Verdicts.{Entries}
use Rattle.wot_component.specs.Certificate.{Signature, Component, Certificate, sig_cmp}
use Rattle.wot_component.specs.Ranked.{IsRising}
use Rattle.wot_edge.specs.Record.{Has, Record, entry_at}
use Rattle.wot_edge.specs.declared.path.Step.{Step}
use Rattle.wot_keyring_spec.specs.Keyring.{Certificates, Keyring, cert_at, certificates_in}
use Rattle.wot_live.specs.Edge.{signature_place}
use Rattle.wot_standing.specs.Kinds.{is_certification}
use Rattle.wot_standing.specs.Standing.{own}
use Rattle.wot_explain.specs.Reasons.{Reason, reason_of, reason_word, step_by}
use Rattle.wot_explain.specs.Explaining.{reasons_on}
use Rattle.wot_explain.specs.Usable.{AreRoadsOf, AreTold, IsOnUserId, IsReasonFor, IsUsableEdge, TellsEdges}
use Rattle.wot_explain.proofs.Edges.{is_usable_where, zero_is, step_is}
use Rattle.wot_explain.proofs.Places.{kept_at, place_here, placed}

-- ---- one certification

module _ (verdicts : Entries) (certs : Certificates) (t : ℕ) (c : Certificate) (place : ℕ) (uid : Component)
    (s : Signature) where
  abbrev Usable : Step → Type 0
  Usable step = IsUsableEdge verdicts certs t c place (signature_place s uid.sigs) step

  -- the step returned with a word, if the edge's step is this
  shown : (n : ℕ) → reason_word verdicts certs t uid s ≡ n → (b : Bool) → (n == 0) ≡ b → IsOnUserId c place uid s
      → (step : Step) → (if b then step_by verdicts (own c) place uid s else None) ≡ Some step → Usable step
  shown n e true z on step h =
      let usable = is_usable_where verdicts certs t c place uid s on (e ∙ eqb-true n 0 z) in
      let same : usable.0 ≡ step = let network = sym (step_is verdicts certs t c place uid s on usable.0 usable.1) ∙ h in
      cc in
      subst Usable same usable.1
  shown n e false z on step h = absurd cc

  shows : IsOnUserId c place uid s → (step : Step) → Usable step
      → (if reason_word verdicts certs t uid s == 0 then step_by verdicts (own c) place uid s else None) ≡ Some step
  shows on step u =
      ap (λ (b : Bool). if b then step_by verdicts (own c) place uid s else None)
      (eq-eqb (reason_word verdicts certs t uid s) 0 (zero_is verdicts certs t c place uid s on step u))
      ∙ step_is verdicts certs t c place uid s on step u

  beside : (b : Bool) → (reason_word verdicts certs t uid s == 0) ≡ b
      → is_some (if b then step_by verdicts (own c) place uid s else None) ≡ true →
      reason_word verdicts certs t uid s ≡ 0
  beside true z h = eqb-true (reason_word verdicts certs t uid s) 0 z
  beside false z h = absurd cc

  zero_shows : IsOnUserId c place uid s → reason_word verdicts certs t uid s ≡ 0
      → is_some (if reason_word verdicts certs t uid s == 0 then step_by verdicts (own c) place uid s else None) ≡ true
  zero_shows on h =
      let usable = is_usable_where verdicts certs t c place uid s on h in
      ap is_some (shows on usable.0 usable.1)

  is_reason : IsOnUserId c place uid s → IsReasonFor verdicts certs t c place uid s
      (reason_of verdicts certs t (own c) place uid s)
  is_reason on = record {
    number = refl;
    edge = λ step. (
      shown (reason_word verdicts certs t uid s) refl (reason_word verdicts certs t uid s == 0) refl on step,
      shows on step,
    );
    word = (zero_shows on, beside (reason_word verdicts certs t uid s == 0) refl);
  }

-- ---- all of a user ID

module _ (verdicts : Entries) (certs : Certificates) (t : ℕ) (c : Certificate) (place : ℕ) (uid : Component) where
  abbrev AreOf : List Signature → Type 0
  AreOf sigs = AreTold (IsReasonFor verdicts certs t c place uid) (filter is_certification sigs)
      (map (reason_of verdicts certs t (own c) place uid) (filter is_certification sigs))

  abbrev AreThere : List Signature → Type 0
  AreThere sigs = (s : Signature) → Has sigs s → Has uid.sigs s

  -- the first, if it is a certification, and the others
  with_first : (s : Signature) (sigs : List Signature) (b : Bool) → is_certification s ≡ b
      → (is_certification s ≡ true → IsOnUserId c place uid s) → AreOf sigs
      → AreTold (IsReasonFor verdicts certs t c place uid) (cond b (s ∷ filter is_certification sigs)
      (filter is_certification sigs))
      (map (reason_of verdicts certs t (own c) place uid) (cond b (s ∷ filter is_certification sigs)
      (filter is_certification sigs)))
  with_first s sigs true e on rest = (is_reason verdicts certs t c place uid s (on e), rest)
  with_first s sigs false e on rest = rest

  are_told : slice_get c.user_ids place ≡ Some uid → IsRising sig_cmp uid.sigs → (sigs : List Signature) →
      AreThere sigs → AreOf sigs
  are_told here rises [] there = tt
  are_told here rises (s ∷ sigs) there =
      with_first s sigs (is_certification s) refl
      (λ kind. record { here = here; rises = rises; there = there s (inl refl); kind = kind })
      (are_told here rises sigs (λ other has. there other (inr has)))

-- ---- the explanation in a keyring

pub edges_told : (k : Keyring) (t : ℕ) (fpr : Fpr) (u : List ℕ) (roads : List ℕ → Record) → AreRoadsOf roads k t →
    (place : ℕ) (c : Certificate)
    → Some place ≡ (entry_at (roads u) fpr).place → Some c ≡ cert_at k fpr
    → (ids : List Component) → ids ≡ c.user_ids → (uid : Component) → Some uid ≡ slice_get ids place →
    IsRising sig_cmp uid.sigs
    → (reasons : List Reason) → reasons ≡ reasons_on k.verdicts (certificates_in k) t (own c) place uid →
    TellsEdges k t fpr u reasons
edges_told k t fpr u roads present place c e f ids same uid g rises reasons network =
    let here : slice_get c.user_ids place ≡ Some uid = ap (λ (ps : List Component). slice_get ps place) (sym same)
    ∙ sym g in
    record {
      cert = c;
      place = place;
      uid = uid;
      kept = kept_at k fpr ∙ sym f;
      placed = ap (placed u) f ∙ place_here k t fpr u roads present (Some place) e;
      here = here;
      each = subst (AreTold (IsReasonFor k.verdicts (certificates_in k) t c place uid)
          (filter is_certification uid.sigs)) (sym network)
          (are_told k.verdicts (certificates_in k) t c place uid here rises uid.sigs (λ s has. has));
    }
