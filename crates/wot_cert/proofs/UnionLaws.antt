-- Unions of certificates of one key: in any order, in any groups, and more than once.
use Rattle.std.proofs.Common.{◌≡◌, ℕ, Bool, false, List, [], ◌∷◌, map, refl, sym, ap, ◌∙◌, subst}
use Rattle.std.specs.declared.cmp.Ordering.TheVariants.{Equal}
use Rattle.std.specs.List.{AllByRecursion}
use Rattle.wot_cert.specs.Assembly.{bare}
use Rattle.wot_component.specs.Certificate.{Signature, Component, Certificate, fresh, kept, sig_cmp, part_cmp, unite}
use Rattle.wot_component.specs.Certificate.{unite_sigs, unite_part, unite_parts, part_with, with_each, unmarked}
use Rattle.wot_component.specs.Certificate.{unmarked_sig, on_key, on_user_id, on_attribute, on_subkey}
use Rattle.wot_component.specs.Ranked.{IsRising}
use Rattle.wot_component.specs.Whole.{IsSigAt, IsPartOf, ArePartsOf, IsCertificate}
use Rattle.wot_component.proofs.Alike.{united-associates, united-commutes, united-itself}
use Rattle.wot_component.proofs.Bodies.{bodies_equal}
use Rattle.wot_cert.proofs.CertificateWithKey.{map-united}
use Rattle.wot_component.proofs.Rank.{only}
use Rattle.wot_cert.proofs.Same.{same_cert}
use Rattle.wot_component.proofs.Walk.{sigs_total, kept_same, parts_total, parts_same}
use Rattle.wot_component.proofs.Wholes.{marked_as, marked_whole}

abbrev Rises : Component → Type 0
Rises p = IsRising sig_cmp p.sigs

rise : (key : List ℕ) (kind : ℕ) (ps : List Component) → AllByRecursion (IsPartOf key kind) ps → AllByRecursion Rises ps
rise key kind [] h = tt
rise key kind (p ∷ ps) h = (h.0.1.0, rise key kind ps h.1)

any : (sigs : List Signature) → AllByRecursion (λ _. Unit {0}) sigs
any [] = tt
any (s ∷ sigs) = (tt, any sigs)

part-alike : (p : Component) (a b : List Signature) → a ≡ b → record p { sigs = a } ≡ record p { sigs = b }
part-alike p a b e = ap (λ (sigs : List Signature). record p { sigs = sigs }) e

-- ---- with nothing

pub none-first : (c : Certificate) → IsCertificate c → unite (bare c.key) c ≡ c
none-first c h =
    same_cert _ _ refl (only sig_cmp kept sigs_total kept_same c.direct h.direct.0)
    (only part_cmp unite_part parts_total parts_same c.user_ids h.user_ids.0)
    (only part_cmp unite_part parts_total parts_same c.attributes h.attributes.0)
    (only part_cmp unite_part parts_total parts_same c.subkeys h.subkeys.0)

pub none-last : (c : Certificate) → unite c (bare c.key) ≡ c
none-last c = refl

-- ---- in any groups

sigs-associate : (a b c : List Signature) → IsRising sig_cmp a → IsRising sig_cmp b → IsRising sig_cmp c
    → unite_sigs (unite_sigs a b) c ≡ unite_sigs a (unite_sigs b c)
sigs-associate a b c h k l =
    united-associates sig_cmp sigs_total kept kept_same (λ _. Unit {0}) (λ x y z p q r. refl) a b c h k l (any a)
    (any b) (any c)

parts-associate : (key other third : List ℕ) (kind : ℕ) (a b c : List Component) → ArePartsOf key kind a
    → ArePartsOf other kind b → ArePartsOf third kind c
    → unite_parts (unite_parts a b) c ≡ unite_parts a (unite_parts b c)
parts-associate key other third kind a b c h k l =
    united-associates part_cmp parts_total unite_part parts_same Rises
    (λ x y z p q r. part-alike x _ _ (sigs-associate x.sigs y.sigs z.sigs p q r)) a b c h.0 k.0 l.0
    (rise key kind a h.1) (rise other kind b k.1) (rise third kind c l.1)

pub associates : (a b c : Certificate) → IsCertificate a → IsCertificate b → IsCertificate c
    → unite (unite a b) c ≡ unite a (unite b c)
associates a b c h k l =
    same_cert _ _ refl (sigs-associate a.direct b.direct c.direct h.direct.0 k.direct.0 l.direct.0)
    (parts-associate a.key b.key c.key on_user_id a.user_ids b.user_ids c.user_ids h.user_ids k.user_ids l.user_ids)
    (parts-associate a.key b.key c.key on_attribute a.attributes b.attributes c.attributes h.attributes k.attributes
    l.attributes)
    (parts-associate a.key b.key c.key on_subkey a.subkeys b.subkeys c.subkeys h.subkeys k.subkeys l.subkeys)

-- ---- more than once

sigs-again : (a : List Signature) → IsRising sig_cmp a → unite_sigs a a ≡ a
sigs-again a h = united-itself sig_cmp sigs_total kept kept_same (λ _. Unit {0}) (λ x p. refl) a h (any a)

parts-again : (key : List ℕ) (kind : ℕ) (a : List Component) → ArePartsOf key kind a → unite_parts a a ≡ a
parts-again key kind a h =
    united-itself part_cmp parts_total unite_part parts_same Rises (λ x p. part-alike x _ _ (sigs-again x.sigs p)) a h.0
    (rise key kind a h.1)

pub itself : (a : Certificate) → IsCertificate a → unite a a ≡ a
itself a h =
    same_cert _ _ refl (sigs-again a.direct h.direct.0) (parts-again a.key on_user_id a.user_ids h.user_ids)
    (parts-again a.key on_attribute a.attributes h.attributes) (parts-again a.key on_subkey a.subkeys h.subkeys)

-- ---- marks

module _ (mark : Signature → Bool) where
  sigs-marked : (a b : List Signature)
      → map (marked_as mark) (unite_sigs a b) ≡ unite_sigs (map (marked_as mark) a) (map (marked_as mark) b)
  sigs-marked a b = map-united sig_cmp kept sig_cmp kept (marked_as mark) (λ x y. refl) (λ x y e. refl) a b

  parts-marked : (a b : List Component)
      → map (part_with (marked_as mark)) (unite_parts a b) ≡ unite_parts (map (part_with (marked_as mark)) a)
      (map (part_with (marked_as mark)) b)
  parts-marked a b =
      map-united part_cmp unite_part part_cmp unite_part (part_with (marked_as mark)) (λ x y. refl)
      (λ x y e. part-alike x _ _ (sigs-marked x.sigs y.sigs)) a b

  -- Merging what a rule marked is marking what was merged.
  pub united-marked : (a b : Certificate)
      → with_each (marked_as mark) (unite a b) ≡ unite (with_each (marked_as mark) a) (with_each (marked_as mark) b)
  united-marked a b =
      same_cert _ _ refl (sigs-marked a.direct b.direct) (parts-marked a.user_ids b.user_ids)
      (parts-marked a.attributes b.attributes) (parts-marked a.subkeys b.subkeys)

  again-sigs : (other : Signature → Bool) (mark_same : (s : Signature) → mark (marked_as other s) ≡ mark s)
      (sigs : List Signature) → map (marked_as mark) (map (marked_as other) sigs) ≡ map (marked_as mark) sigs
  again-sigs other e [] = refl
  again-sigs other e (s ∷ sigs) =
      λ i. record { body = s.body; number = s.number; admitted = e s i } ∷ again-sigs other e sigs i

  again-parts : (other : Signature → Bool) (mark_same : (s : Signature) → mark (marked_as other s) ≡ mark s)
      (ps : List Component)
      → map (part_with (marked_as mark)) (map (part_with (marked_as other)) ps) ≡ map (part_with (marked_as mark)) ps
  again-parts other e [] = refl
  again-parts other e (p ∷ ps) =
      λ i. record { body = p.body; sigs = again-sigs other e p.sigs i } ∷ again-parts other e ps i

  -- Earlier marks don't matter to a rule that doesn't look at them.
  pub marked-again : (other : Signature → Bool) → ((s : Signature) → mark (marked_as other s) ≡ mark s)
      → (c : Certificate) → with_each (marked_as mark) (with_each (marked_as other) c) ≡ with_each (marked_as mark) c
  marked-again other e c =
      same_cert _ _ refl (again-sigs other e c.direct) (again-parts other e c.user_ids)
      (again-parts other e c.attributes) (again-parts other e c.subkeys)

-- ---- in any order

abbrev IsFresh : List ℕ → ℕ → List ℕ → Signature → Type 0
IsFresh key kind component s = s ≡ fresh key kind component s.body

abbrev IsFreshPart : List ℕ → ℕ → Component → Type 0
IsFreshPart key kind p = IsRising sig_cmp p.sigs × AllByRecursion (IsFresh key kind p.body) p.sigs

all-fresh : (key : List ℕ) (kind : ℕ) (component : List ℕ) (sigs : List Signature)
    → AllByRecursion (IsSigAt key kind component) sigs
    → AllByRecursion (IsFresh key kind component) (map unmarked_sig sigs)
all-fresh key kind component [] h = tt
all-fresh key kind component (s ∷ sigs) h =
    (λ i. record { body = s.body; number = h.0.1 i; admitted = false }, all-fresh key kind component sigs h.1)

fresh-parts : (key : List ℕ) (kind : ℕ) (old : List Component) → AllByRecursion (IsPartOf key kind) old
    → AllByRecursion (IsPartOf key kind) (map (part_with unmarked_sig) old)
    → AllByRecursion (IsFreshPart key kind) (map (part_with unmarked_sig) old)
fresh-parts key kind [] h k = tt
fresh-parts key kind (p ∷ ps) h k =
    ((k.0.1.0, all-fresh key kind p.body p.sigs h.0.1.1), fresh-parts key kind ps h.1 k.1)

same-sigs : (key : List ℕ) (kind : ℕ) (component : List ℕ) (x y : Signature) → sig_cmp x y ≡ Equal
    → IsFresh key kind component x → IsFresh key kind component y → x ≡ y
same-sigs key kind component x y e p q = p ∙ ap (fresh key kind component) (bodies_equal x.body y.body e) ∙ sym q

sigs-commute : (key : List ℕ) (kind : ℕ) (component : List ℕ) (a b : List Signature) → IsRising sig_cmp a
    → IsRising sig_cmp b → AllByRecursion (IsFresh key kind component) a → AllByRecursion (IsFresh key kind component) b
    → unite_sigs a b ≡ unite_sigs b a
sigs-commute key kind component a b h k p q =
    united-commutes sig_cmp sigs_total kept kept_same (IsFresh key kind component) (same-sigs key kind component) a b h
    k p q

parts-alike : (key : List ℕ) (kind : ℕ) (x y : Component) → part_cmp x y ≡ Equal → IsFreshPart key kind x
    → IsFreshPart key kind y → unite_part x y ≡ unite_part y x
parts-alike key kind x y e p q =
    let body : x.body ≡ y.body = bodies_equal x.body y.body e in
    let At : List ℕ → Type 0 = λ component. AllByRecursion (IsFresh key kind component) y.sigs in
    let sigs : unite_sigs x.sigs y.sigs ≡ unite_sigs y.sigs x.sigs =
    sigs-commute key kind x.body x.sigs y.sigs p.0 q.0 p.1 (subst At (sym body) q.1) in
    λ i. record { body = body i; sigs = sigs i }

parts-commute : (key : List ℕ) (kind : ℕ) (a b : List Component) → IsRising part_cmp a → IsRising part_cmp b
    → AllByRecursion (IsFreshPart key kind) a → AllByRecursion (IsFreshPart key kind) b
    → unite_parts a b ≡ unite_parts b a
parts-commute key kind a b h k p q =
    united-commutes part_cmp parts_total unite_part parts_same (IsFreshPart key kind) (parts-alike key kind) a b h k p q

module _ (a b : Certificate) (h : IsCertificate a) (k : IsCertificate b) (e : a.key ≡ b.key) where
  moved-key : IsCertificate
      (record { key = a.key; direct = b.direct; user_ids = b.user_ids; attributes = b.attributes; subkeys = b.subkeys })
  moved-key =
      let Of : List ℕ → Type 0 =
      λ key. IsCertificate
      (record {
        key = key;
        direct = b.direct;
        user_ids = b.user_ids;
        attributes = b.attributes;
        subkeys = b.subkeys;
      }) in
      subst Of (sym e) k

  pub unmarked-commute : unite (unmarked a) (unmarked b) ≡ unite (unmarked b) (unmarked a)
  unmarked-commute =
      let u = marked_whole (λ _. false) a h in
      let l = moved-key in
      let v = marked_whole (λ _. false) _ l in
      same_cert _ _ e
      (sigs-commute a.key on_key [] _ _ u.direct.0 v.direct.0 (all-fresh a.key on_key [] a.direct h.direct.1)
      (all-fresh a.key on_key [] b.direct l.direct.1))
      (parts-commute a.key on_user_id _ _ u.user_ids.0 v.user_ids.0
      (fresh-parts a.key on_user_id a.user_ids h.user_ids.1 u.user_ids.1)
      (fresh-parts a.key on_user_id b.user_ids l.user_ids.1 v.user_ids.1))
      (parts-commute a.key on_attribute _ _ u.attributes.0 v.attributes.0
      (fresh-parts a.key on_attribute a.attributes h.attributes.1 u.attributes.1)
      (fresh-parts a.key on_attribute b.attributes l.attributes.1 v.attributes.1))
      (parts-commute a.key on_subkey _ _ u.subkeys.0 v.subkeys.0
      (fresh-parts a.key on_subkey a.subkeys h.subkeys.1 u.subkeys.1)
      (fresh-parts a.key on_subkey b.subkeys l.subkeys.1 v.subkeys.1))

  -- In both orders the merged certificates have the same signatures with the same numbers; only marks may differ.
  pub commutes : unmarked (unite a b) ≡ unmarked (unite b a)
  commutes = united-marked (λ _. false) a b ∙ unmarked-commute ∙ sym (united-marked (λ _. false) b a)

-- What a rule marks in a merged certificate doesn't depend on the order of the two, if the rule doesn't look at earlier
-- marks.
pub marked-commute : (mark : Signature → Bool) → ((s : Signature) → mark (unmarked_sig s) ≡ mark s)
    → (a b : Certificate) → IsCertificate a → IsCertificate b → a.key ≡ b.key
    → with_each (marked_as mark) (unite a b) ≡ with_each (marked_as mark) (unite b a)
marked-commute mark e a b h k same =
    sym (marked-again mark (λ _. false) e (unite a b))
    ∙ ap (with_each (marked_as mark)) (commutes a b h k same)
    ∙ marked-again mark (λ _. false) e (unite b a)
