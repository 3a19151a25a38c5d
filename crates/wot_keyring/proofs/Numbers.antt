-- A merged certificate has the signatures of both, by their numbers; marks don't matter.
use Rattle.std.proofs.Common.{◌≡◌, ℕ, Bool, ◌||◌, List, [], ◌∷◌, map, sym, ap, ◌∙◌, subst, refl}
use Rattle.std.specs.declared.cmp.Ordering.{Ordering}
use Rattle.std.specs.declared.cmp.Ordering.TheVariants.{Less, Equal, Greater}
use Rattle.std.specs.List.{AllByRecursion, list_any}
use Rattle.std.proofs.lemmas.List.Folds.{list_any-append}
use Rattle.std.proofs.lemmas.Map.Lookups.{exact_bytes}
use Rattle.wot_types.specs.declared.number.SigNumber.{SigNumber}
use Rattle.wot_verdict.specs.Number.{number_of}
use Rattle.wot_verdict.specs.Verdicts.{is_number}
use Rattle.wot_policy.specs.declared.rows.PolicyRows.{PolicyRows}
use Rattle.wot_component.specs.Ranked.{placed, put, united}
use Rattle.wot_component.specs.Certificate.{Signature, Component, Certificate, sig_cmp, part_cmp, kept, unite, unite_sigs}
use Rattle.wot_component.specs.Certificate.{unite_part, unite_parts, part_with}
use Rattle.wot_component.specs.Counts.{sigs_on}
use Rattle.wot_component.specs.Judged.{judged, judged_sig}
use Rattle.wot_component.specs.Whole.{IsCertificate, IsSigAt, IsPartOf}
use Rattle.wot_keyring_spec.specs.Verdict.{is_among, has_number}
use Rattle.wot_index.proofs.Choices.{or_false, or_itself, or_more, or_passed, or_crossed}

-- ---- sets in the order of a rank

-- If a test holds for a joined element exactly when it holds for either one, it holds for a merged list exactly when it
-- holds for either list.
module _ {A : Type 0} (R : A → A → Ordering) (join : A → A → A) (test : A → Bool) (P : A → Type 0)
    (joins : (old new : A) → P old → P new → R new old ≡ Equal →
    P (join old new) × (test (join old new) ≡ test old || test new)) where
  put_keeps : (x : A) (ys : List A) → P x → AllByRecursion P ys → AllByRecursion P (put R join x ys)
  put_keeps x [] p all = (p, tt)
  put_keeps x (y ∷ ys) p all =
      (elim (R x y) as (λ r. R x y ≡ r → AllByRecursion P (placed r join x y ys (put R join x ys))) [
        | Less ↦ λ less. (p, all)
        | Equal ↦ λ equal. ((joins y x all.0 p equal).0, all.1)
        | Greater ↦ λ greater. (all.0, put_keeps x ys p all.1)
      ]) refl

  put_any : (x : A) (ys : List A) → P x → AllByRecursion P ys → list_any test (put R join x ys) ≡ test x || list_any
      test ys
  put_any x [] p all = refl
  put_any x (y ∷ ys) p all =
      (elim (R x y) as (λ r. R x y ≡ r → list_any test (placed r join x y ys (put R join x ys)) ≡ test
      x || (test y || list_any test ys)) [
        | Less ↦ λ less. refl
        | Equal ↦ λ equal. ap (λ b. b || list_any test ys) (joins y x all.0 p equal).1 ∙ or_more (test y) (test x)
            (list_any test ys) ∙ or_passed (test x) (test y) (list_any test ys)
        | Greater ↦ λ greater. ap (λ b. test y || b) (put_any x ys p all.1) ∙ or_passed (test x) (test y)
            (list_any test ys)
      ]) refl

  pub united_keeps : (xs ys : List A) → AllByRecursion P xs → AllByRecursion P ys →
      AllByRecursion P (united R join xs ys)
  united_keeps xs [] all more = all
  united_keeps xs (y ∷ ys) all more = put_keeps y (united R join xs ys) more.0 (united_keeps xs ys all more.1)

  pub united_any : (xs ys : List A) → AllByRecursion P xs → AllByRecursion P ys →
      list_any test (united R join xs ys) ≡ list_any test xs || list_any test ys
  united_any xs [] all more = sym (or_false (list_any test xs))
  united_any xs (y ∷ ys) all more =
      put_any y (united R join xs ys) more.0 (united_keeps xs ys all more.1)
      ∙ ap (λ b. test y || b) (united_any xs ys all more.1)
      ∙ or_passed (list_any test xs) (test y) (list_any test ys)

-- ---- signatures at one place

abbrev is_this : SigNumber → Signature → Bool
is_this n s = is_number n s.number

module _ (n : SigNumber) (key : List ℕ) (kind : ℕ) where
  sigs_join : (component : List ℕ) (old new : Signature) → IsSigAt key kind component old →
      IsSigAt key kind component new → sig_cmp new old ≡ Equal →
      IsSigAt key kind component (kept old new) × (is_this n (kept old new) ≡ is_this n old || is_this n new)
  sigs_join component old new a b e =
      let same : new.body ≡ old.body = exact_bytes new.body old.body e in
      let number : old.number ≡ new.number = a.1 ∙ ap (number_of key kind component) (sym same) ∙ sym b.1 in
      (a, sym (or_itself (is_this n old)) ∙ ap (λ (m : SigNumber). is_this n old || is_number n m) number)

  sigs_keep : (component : List ℕ) (xs ys : List Signature) → AllByRecursion (IsSigAt key kind component) xs →
      AllByRecursion (IsSigAt key kind component) ys → AllByRecursion (IsSigAt key kind component) (unite_sigs xs ys)
  sigs_keep component = united_keeps sig_cmp kept (is_this n) (IsSigAt key kind component) (sigs_join component)

  sigs_any : (component : List ℕ) (xs ys : List Signature) → AllByRecursion (IsSigAt key kind component) xs →
      AllByRecursion (IsSigAt key kind component) ys → is_among n (unite_sigs xs ys) ≡ is_among n xs || is_among n ys
  sigs_any component = united_any sig_cmp kept (is_this n) (IsSigAt key kind component) (sigs_join component)

  -- ---- parts

  abbrev Holds : Component → Type 0
  Holds p = AllByRecursion (IsSigAt key kind p.body) p.sigs

  parts_join : (old new : Component) → Holds old → Holds new → part_cmp new old ≡ Equal →
      Holds (unite_part old new) × (is_among n (unite_part old new).sigs ≡ is_among n old.sigs || is_among n new.sigs)
  parts_join old new a b e =
      let same : new.body ≡ old.body = exact_bytes new.body old.body e in
      let c : AllByRecursion (IsSigAt key kind old.body) new.sigs =
      subst (λ (body : List ℕ). AllByRecursion (IsSigAt key kind body) new.sigs) same b in
      (sigs_keep old.body old.sigs new.sigs a c, sigs_any old.body old.sigs new.sigs a c)

  parts_hold : (ps : List Component) → AllByRecursion (IsPartOf key kind) ps → AllByRecursion Holds ps
  parts_hold [] all = tt
  parts_hold (p ∷ ps) all = (all.0.1.1, parts_hold ps all.1)

  pub among_parts : (ps : List Component) → is_among n (sigs_on ps) ≡ list_any (λ (p : Component). is_among n p.sigs) ps
  among_parts [] = refl
  among_parts (p ∷ ps) = list_any-append (is_this n) p.sigs (sigs_on ps) ∙ ap (λ b. is_among n p.sigs || b)
      (among_parts ps)

  parts_any : (xs ys : List Component) → AllByRecursion (IsPartOf key kind) xs → AllByRecursion (IsPartOf key kind) ys →
      is_among n (sigs_on (unite_parts xs ys)) ≡ is_among n (sigs_on xs) || is_among n (sigs_on ys)
  parts_any xs ys all more =
      among_parts (unite_parts xs ys)
      ∙ united_any part_cmp unite_part (λ (p : Component). is_among n p.sigs) Holds parts_join xs ys (parts_hold xs all)
      (parts_hold ys more)
      ∙ sym (λ i. among_parts xs i || among_parts ys i)

-- ---- certificates

pub united_numbers : (n : SigNumber) (a b : Certificate) → IsCertificate a → IsCertificate b → a.key ≡ b.key →
    has_number n (unite a b) ≡ has_number n a || has_number n b
united_numbers n a b h k same =
    let At : List ℕ → Type 0 = λ x. AllByRecursion (IsSigAt x 0 []) b.direct in
    let direct = sigs_any n a.key 0 [] a.direct b.direct h.direct.1 (subst At (sym same) k.direct.1) in
    let user_ids = parts_any n a.key 1 a.user_ids b.user_ids h.user_ids.1
    (subst (λ (x : List ℕ). AllByRecursion (IsPartOf x 1) b.user_ids) (sym same) k.user_ids.1) in
    let attributes = parts_any n a.key 2 a.attributes b.attributes h.attributes.1
    (subst (λ (x : List ℕ). AllByRecursion (IsPartOf x 2) b.attributes) (sym same) k.attributes.1) in
    let subkeys = parts_any n a.key 3 a.subkeys b.subkeys h.subkeys.1
    (subst (λ (x : List ℕ). AllByRecursion (IsPartOf x 3) b.subkeys) (sym same) k.subkeys.1) in
    four (is_among n a.direct) (is_among n b.direct) (is_among n (sigs_on a.user_ids)) (is_among n (sigs_on b.user_ids))
    (is_among n (sigs_on a.attributes)) (is_among n (sigs_on b.attributes)) (is_among n (sigs_on a.subkeys))
    (is_among n (sigs_on b.subkeys))
    (is_among n (unite_sigs a.direct b.direct)) (is_among n (sigs_on (unite_parts a.user_ids b.user_ids)))
    (is_among n (sigs_on (unite_parts a.attributes b.attributes)))
    (is_among n (sigs_on (unite_parts a.subkeys b.subkeys)))
    direct user_ids attributes subkeys
  where
    four : (d d' u u' t t' s s' x y z w : Bool) → x ≡ d || d' → y ≡ u || u' → z ≡ t || t' → w ≡ s || s' →
        x || (y || (z || w)) ≡ (d || (u || (t || s))) || (d' || (u' || (t' || s')))
    four d d' u u' t t' s s' x y z w a b c e =
        (λ i. a i || (b i || (c i || e i)))
        ∙ ap (λ r. (d || d') || ((u || u') || r)) (or_crossed t t' s s')
        ∙ ap (λ r. (d || d') || r) (or_crossed u u' (t || s) (t' || s'))
        ∙ or_crossed d d' (u || (t || s)) (u' || (t' || s'))

-- ---- marks

judged_among : (rows : PolicyRows) (n : SigNumber) (sigs : List Signature) →
    is_among n (map (judged_sig rows) sigs) ≡ is_among n sigs
judged_among rows n [] = refl
judged_among rows n (s ∷ sigs) = ap (λ b. is_number n s.number || b) (judged_among rows n sigs)

judged_on : (rows : PolicyRows) (n : SigNumber) (ps : List Component) →
    is_among n (sigs_on (map (part_with (judged_sig rows)) ps)) ≡ is_among n (sigs_on ps)
judged_on rows n [] = refl
judged_on rows n (p ∷ ps) =
    list_any-append (is_this n) (map (judged_sig rows) p.sigs) (sigs_on (map (part_with (judged_sig rows)) ps))
    ∙ (λ i. judged_among rows n p.sigs i || judged_on rows n ps i)
    ∙ sym (list_any-append (is_this n) p.sigs (sigs_on ps))

pub judged_numbers : (rows : PolicyRows) (n : SigNumber) (c : Certificate) →
    has_number n (judged rows c) ≡ has_number n c
judged_numbers rows n c =
    λ i. judged_among rows n c.direct
    i || (judged_on rows n c.user_ids i || (judged_on rows n c.attributes i || judged_on rows n c.subkeys i))
