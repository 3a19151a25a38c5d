-- What follows for an import if two lists have the same effect.
use Rattle.std.proofs.Common.{◌≡◌, ◌-◌, ◌||◌, inl, inr, ℕ, Bool, true, false, cond, List, [], ◌∷◌}
use Rattle.std.proofs.Common.{length, Option, Some, None, Result, Ok, Err, sym, ap, ◌∙◌, subst, refl}
use Rattle.std.specs.Option.{option_map}
use Rattle.std.specs.Map.{lookup}
use Rattle.std.proofs.lemmas.Map.Made.{lookup-map_values}
use Rattle.wot_key.specs.Key.{fpr_of}
use Rattle.wot_policy.specs.declared.rows.PolicyRows.{PolicyRows}
use Rattle.wot_types.specs.declared.limits.Limit.{Limit}
use Rattle.wot_component.specs.Certificate.{Certificate}
use Rattle.wot_keyring_spec.specs.declared.imported.Imported.{Imported}
use Rattle.wot_keyring_spec.specs.declared.kept.Kept.{Kept}
use Rattle.wot_keyring_spec.specs.declared.refusal.Refusal.{Refusal}
use Rattle.wot_keyring_spec.specs.declared.refusal.Refusal.TheVariants.{Packet, Cert, Clash, Full, Misfiled, Memory}
use Rattle.wot_merge.specs.declared.staging.Fault.{Fault}
use Rattle.wot_merge.specs.declared.staging.Fault.TheVariants as faults
use Rattle.wot_merge.specs.Gather.{clashes_with, taken_all, AreAllWhole, DoTheSame, ComeToNothing, IsNothingTold}
use Rattle.wot_component.specs.Judged.{sound_of}
use Rattle.wot_keyring_spec.specs.Import.{any_clash, weigh, with_cert, with_certs, first_full, fresh_in, holding, answer_united}
use Rattle.wot_keyring_spec.specs.Import.{◌>>◌, refuse_if}
use Rattle.wot_keyring_spec.specs.Importing.{alone, TellsUnion, AnswersUnited, asked_for}
use Rattle.wot_keyring_spec.specs.Keyring.{Entries, Certificates, Keyring, is_fpr, stripped, certificates_in}
use Rattle.wot_keyring_spec.specs.Kept.{AreWhole, IsKeyring}
use Rattle.wot_merge.specs.Staging.{found_for, kept_with, clash_at, clash_in}
use Rattle.wot_keyring.specs.Merging.{counted_as, refused, AnswersCounting}
use Rattle.wot_merge.proofs.Clashes.{clashes_told}
use Rattle.wot_merge.proofs.MergedInTurn.{none_stays}
use Rattle.wot_merge.proofs.Transport.{certs_all}

-- ---- the effect and the merge

same_test : (o : Option Kept) (c : Certificate) → clashes_with (option_map (λ (x : Kept). x.cert) o) c ≡ clash_at o c
same_test None c = refl
same_test (Some x) c = refl

one_test : (es : Entries) (c : Certificate) → clashes_with (lookup (is_fpr (fpr_of c.key)) (stripped es)) c ≡ clash_at
    (found_for es c) c
one_test es c = ap (λ (o : Option Certificate). clashes_with o c) (lookup-map_values (λ (x : Kept). x.cert)
    (is_fpr (fpr_of c.key)) es) ∙ same_test (found_for es c) c

taken_by : (rows : PolicyRows) (stamp : ℕ) (es : Entries) (cs : List Certificate) →
    taken_all rows (Some (stripped es)) cs ≡ cond (clash_in rows stamp es cs) None
    (Some (with_certs rows (stripped es) cs))
taken_by rows stamp es [] = refl
taken_by rows stamp es (c ∷ cs) =
    let next : stripped (kept_with rows stamp es c) ≡ with_cert rows (stripped es) c =
    certs_all rows stamp es (c ∷ []) in
    ap (λ b. taken_all rows (cond b None (Some (with_cert rows (stripped es) c))) cs) (one_test es c)
    ∙ (elim (clash_at (found_for es c) c) as (λ b. taken_all rows (cond b None (Some (with_cert rows (stripped es) c)))
    cs ≡ cond (b || clash_in rows stamp (kept_with rows stamp es c) cs) None
    (Some (with_certs rows (with_cert rows (stripped es) c) cs))) [
      | true ↦ none_stays rows cs
      | false ↦
          subst (λ (certs : Certificates). taken_all rows (Some certs) cs ≡ cond
          (clash_in rows stamp (kept_with rows stamp es c) cs) None (Some (with_certs rows certs cs))) next
          (taken_by rows stamp (kept_with rows stamp es c) cs)
    ])

whole_stripped : (es : Entries) → AreWhole es → AreAllWhole (stripped es)
whole_stripped [] whole = tt
whole_stripped (e ∷ es) whole = (whole.0, whole_stripped es whole.1)

-- ---- answers

test_of : (a b : Bool) (x y : Certificates) → cond a None (Some x) ≡ cond b None (Some y) → a ≡ b
test_of true true x y e = refl
test_of true false x y e = absurd cc
test_of false true x y e = absurd cc
test_of false false x y e = refl

held_of : (a b : Bool) (x y : Certificates) → a ≡ false → b ≡ false → cond a None (Some x) ≡ cond b None (Some y) →
    x ≡ y
held_of a b x y f g e =
    let h : Some x ≡ Some y = sym (ap (λ t. cond t None (Some x)) f) ∙ e ∙ ap (λ t. cond t None (Some y)) g in
    cc

none_of : (a : Bool) (x : Certificates) → cond a None (Some x) ≡ None → a ≡ true
none_of true x e = refl
none_of false x e = absurd cc

-- the counts, unless a limit is exceeded
abbrev unless_full : Option Limit → Imported → Result Imported Refusal
unless_full o counts = option_map Full o >> Ok counts

full_counted : (o : Option Limit) (taken others skipped fresh : ℕ) →
    unless_full o (record { taken = taken; skipped = skipped; fresh = fresh }) ≡ counted_as taken
    (unless_full o (record { taken = others; skipped = skipped; fresh = fresh }))
full_counted None taken others skipped fresh = refl
full_counted (Some limit) taken others skipped fresh = refl

-- the refusal of a clash, and else the counts, unless a limit is exceeded
abbrev answer_by : Bool → Option Limit → Imported → Result Imported Refusal
answer_by clashes full counts = refuse_if clashes Clash >> unless_full full counts

-- what is held alike is answered alike, except how many were read
answered_alike : (a b : Bool) (full : Certificates → Option Limit) (fresh : Certificates → ℕ) (x y : Certificates)
    (taken others skipped : ℕ) → a ≡ b → (b ≡ false → x ≡ y) →
    answer_by a (full x) (record { taken = taken; skipped = skipped; fresh = fresh x }) ≡ counted_as taken
    (answer_by b (full y) (record { taken = others; skipped = skipped; fresh = fresh y }))
answered_alike true true full fresh x y taken others skipped e held = refl
answered_alike true false full fresh x y taken others skipped e held = absurd cc
answered_alike false true full fresh x y taken others skipped e held = absurd cc
answered_alike false false full fresh x y taken others skipped e held =
    ap (λ (z : Certificates). unless_full (full z) (record { taken = taken; skipped = skipped; fresh = fresh z }))
    (held refl) ∙ full_counted (full y) taken others skipped (fresh y)

module _ (rows : PolicyRows) (k : Keyring) (h : IsKeyring k) where
  taken_so : (cs : List Certificate) → taken_all rows (Some (certificates_in k)) cs ≡ cond
      (any_clash (alone (certificates_in k)) cs) None (Some (with_certs rows (certificates_in k) cs))
  taken_so cs =
      taken_by rows 0 k.certs cs
      ∙ ap (λ b. cond b None (Some (with_certs rows (certificates_in k) cs)))
      (sym (clashes_told rows 0 k.certs cs h.named h.sorted))

  -- A list without a result clashes.
  pub nothing_answered : (list : List Certificate) (skipped : ℕ) → ComeToNothing list →
      AnswersUnited (Err Clash) rows k list skipped
  nothing_answered list skipped none =
      let clash : any_clash (alone (certificates_in k)) list ≡ true =
      none_of _ _ (sym (taken_so list) ∙ none rows (Some (certificates_in k)) (whole_stripped k.certs h.whole)) in
      inl (sym (ap (λ b. refuse_if b Clash >> unless_full
      (first_full k.limits (with_certs rows (certificates_in k) list)) (record {
        taken = length list;
        skipped =
            skipped;
        fresh = fresh_in (certificates_in k) (with_certs rows (certificates_in k) list);
      })) clash))

  pub nothing_refused : (fault : Fault) (r : Refusal) (list : List Certificate) (skipped : ℕ) → r ≡ refused fault →
      IsNothingTold fault list → AnswersUnited (Err r) rows k list skipped
  nothing_refused faults.Clash r list skipped is told =
      subst (λ (x : Refusal). AnswersUnited (Err x) rows k list skipped) (sym is) (nothing_answered list skipped told)
  nothing_refused faults.Memory r list skipped is told =
      subst (λ (x : Refusal). AnswersUnited (Err x) rows k list skipped) (sym is) (inr refl)

  module _ (list other : List Certificate) (same : DoTheSame list other) where
    both : cond (any_clash (alone (certificates_in k)) list) None
        (Some (with_certs rows (certificates_in k) list)) ≡ cond (any_clash (alone (certificates_in k)) other) None
        (Some (with_certs rows (certificates_in k) other))
    both = sym (taken_so list) ∙ same rows (Some (certificates_in k)) (whole_stripped k.certs h.whole) ∙ taken_so other

    same_clash : any_clash (alone (certificates_in k)) list ≡ any_clash (alone (certificates_in k)) other
    same_clash = test_of _ _ _ _ both

    same_held : any_clash (alone (certificates_in k)) other ≡ false →
        with_certs rows (certificates_in k) list ≡ with_certs rows (certificates_in k) other
    same_held none = held_of _ _ _ _ (same_clash ∙ none) none both

    same_answer : (skipped : ℕ) → answer_united rows k.limits (certificates_in k) list skipped ≡ counted_as
        (length list) (answer_united rows k.limits (certificates_in k) other skipped)
    same_answer skipped =
        answered_alike (any_clash (alone (certificates_in k)) list) (any_clash (alone (certificates_in k)) other)
        (first_full k.limits) (fresh_in (certificates_in k)) (with_certs rows (certificates_in k) list)
        (with_certs rows (certificates_in k) other) (length list) (length other) skipped same_clash same_held

    same_error : (skipped : ℕ) (r : Refusal) → answer_united rows k.limits (certificates_in k) other skipped ≡ Err r →
        Err r ≡ answer_united rows k.limits (certificates_in k) list skipped
    same_error skipped r told = sym (same_answer skipped ∙ ap (counted_as (length list)) told)

    -- a refusal of the first list is one of the second
    pub same_refusal : (r : Refusal) (skipped : ℕ) → TellsUnion (Some r) k.limits (certificates_in k) other →
        AnswersUnited (Err r) rows k list skipped
    same_refusal (Packet f) skipped told = inl (same_error skipped (Packet f) (told rows skipped))
    same_refusal (Cert f) skipped told = inl (same_error skipped (Cert f) (told rows skipped))
    same_refusal Clash skipped told = inl (same_error skipped Clash (told rows skipped))
    same_refusal (Full limit) skipped told = inl (same_error skipped (Full limit) (told rows skipped))
    same_refusal Misfiled skipped told = inl (same_error skipped Misfiled (told rows skipped))
    same_refusal Memory skipped told = inr refl

    -- the counts, as many read as the first list has
    pub same_counts : (done : Result Imported Refusal) (taken skipped : ℕ) → taken ≡ length list →
        AnswersCounting taken done rows k other skipped → AnswersUnited done rows k list skipped
    same_counts done taken skipped n (inl e) =
        inl (e ∙ ap (λ m. counted_as m (answer_united rows k.limits (certificates_in k) other skipped)) n
        ∙ sym (same_answer skipped))
    same_counts done taken skipped n (inr e) = inr e

    pub same_holding : any_clash (alone (certificates_in k)) other ≡ false →
        holding k (with_certs rows (certificates_in k) other) ≡ holding k (with_certs rows (certificates_in k) list)
    same_holding none = ap (holding k) (sym (same_held none))

    pub same_asked : any_clash (alone (certificates_in k)) other ≡ false →
        asked_for rows k other ≡ asked_for rows k list
    same_asked none = ap (λ (certs : Certificates). weigh sound_of certs - weigh sound_of (certificates_in k))
        (sym (same_held none))
