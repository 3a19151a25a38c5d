-- Marking what is new in a merged certificate is merging with what is marked.
use Rattle.std.proofs.Common.{◌≡◌, ℕ, ◌+◌, List, [], ◌∷◌, map, refl, sym, ap, ◌∙◌, arith, zero-add}
use Rattle.std.specs.declared.cmp.Ordering.TheVariants.{Equal}
use Rattle.std.specs.List.{AllByRecursion}
use Rattle.wot_policy.specs.declared.rows.PolicyRows.{PolicyRows}
use Rattle.wot_component.specs.Ranked.{IsRising}
use Rattle.wot_component.specs.Counts.{sum_of, part_weight}
use Rattle.wot_component.specs.Certificate.{Signature, Component, Certificate, sig_cmp, part_cmp, kept, unite, unite_sigs}
use Rattle.wot_component.specs.Certificate.{of_parts, unite_part, unite_parts, part_with}
use Rattle.wot_component.specs.Judged.{judged_sig, judged, if_sound, sound_of, IsJudgedSig, IsJudgedPart, IsJudged}
use Rattle.wot_component.specs.New.{stays, none, judged_sigs, judged_part, judged_parts, sound_new, sound_new_on}
use Rattle.wot_component.specs.New.{judged_beside, sound_beside}
use Rattle.wot_component.specs.Whole.{IsPartOf, ArePartsOf, IsCertificate}
use Rattle.wot_component.proofs.New.{marked_union, weighed_union, all_new}
use Rattle.wot_cert.proofs.Same.{same_cert}
use Rattle.wot_component.proofs.Walk.{sigs_total, kept_same, parts_total, parts_same}
use Rattle.wot_component.proofs.Wholes.{united_all}

any : {A : Type 0} (xs : List A) → AllByRecursion (λ _. Unit {0}) xs
any [] = tt
any (x ∷ xs) = (tt, any xs)

-- ---- signatures

pub sigs_marked : (rows : PolicyRows) (a b : List Signature) → IsRising sig_cmp a → IsRising sig_cmp b
    → judged_sigs rows (unite_sigs a b) a ≡ unite_sigs a (map (judged_sig rows) b)
sigs_marked rows a b h k =
    marked_union sig_cmp kept sigs_total kept_same stays (judged_sig rows) (λ _. Unit {0}) (λ x p. refl)
    (λ x y e p q. refl) (λ x y. refl) (λ x y. refl) a b h k (any a) (any b)

pub sigs_weighed : (a b : List Signature) → IsRising sig_cmp a → IsRising sig_cmp b
    → sound_new (unite_sigs a b) a + sum_of if_sound a ≡ sum_of if_sound (unite_sigs a b)
sigs_weighed a b h k =
    weighed_union sig_cmp kept sigs_total kept_same none if_sound if_sound (λ _. Unit {0})
    (λ x p. zero-add (if_sound x)) (λ x y e p q. zero-add (if_sound x)) (λ x p. refl) a b h k (any a) (any b)

-- ---- components

abbrev Rises : Component → Type 0
Rises p = IsRising sig_cmp p.sigs

with_sigs : (p : Component) (xs ys : List Signature) → xs ≡ ys → record p { sigs = xs } ≡ record p { sigs = ys }
with_sigs p xs ys e = ap (λ (zs : List Signature). record p { sigs = zs }) e

part_stays : (rows : PolicyRows) (x : Component) → Rises x → judged_part rows x.sigs x ≡ x
part_stays rows x h = with_sigs x _ _ (sigs_marked rows x.sigs [] h tt)

part_joined : (rows : PolicyRows) (x y : Component) → part_cmp x y ≡ Equal → Rises x → Rises y
    → judged_part rows x.sigs (unite_part x y) ≡ unite_part x (judged_part rows [] y)
part_joined rows x y e h k =
    with_sigs x _ _
    (sigs_marked rows x.sigs y.sigs h k ∙ ap (unite_sigs x.sigs) (sym (all_new sig_cmp stays (judged_sig rows) y.sigs)))

only_same : (rows : PolicyRows) (ps : List Component)
    → map (judged_part rows []) ps ≡ map (part_with (judged_sig rows)) ps
only_same rows [] = refl
only_same rows (p ∷ ps) =
    let e : judged_part rows [] p ≡ part_with (judged_sig rows) p =
    with_sigs p _ _ (all_new sig_cmp stays (judged_sig rows) p.sigs) in
    λ i. e i ∷ only_same rows ps i

pub parts_marked : (rows : PolicyRows) (a b : List Component) → IsRising part_cmp a → IsRising part_cmp b
    → AllByRecursion Rises a → AllByRecursion Rises b
    → judged_parts rows (unite_parts a b) a ≡ unite_parts a (map (part_with (judged_sig rows)) b)
parts_marked rows a b h k p q =
    marked_union part_cmp unite_part parts_total parts_same
    (λ (old : Component) (new : Component). judged_part rows old.sigs new) (judged_part rows []) Rises (part_stays rows)
    (part_joined rows) (λ x y. refl) (λ x y. refl) a b h k p q
    ∙ ap (unite_parts a) (only_same rows b)

abbrev weight : Component → ℕ
weight = part_weight if_sound (λ _. 0)

same_weight : (s n m : ℕ) → s + n ≡ m → s + (0 + n) ≡ 0 + m
same_weight s n m h = omega arith

nothing_old : (ys : List Signature) → sound_new ys [] ≡ sum_of if_sound ys
nothing_old [] = refl
nothing_old (y ∷ ys) = ap (λ n. if_sound y + n) (nothing_old ys)

plain_alone : (n : ℕ) → n ≡ 0 + n
plain_alone n = omega arith

alone : (p : Component) → sound_new p.sigs [] ≡ weight p
alone p = nothing_old p.sigs ∙ plain_alone _

pub parts_weighed : (a b : List Component) → IsRising part_cmp a → IsRising part_cmp b → AllByRecursion Rises a
    → AllByRecursion Rises b → sound_new_on (unite_parts a b) a + sum_of weight a ≡ sum_of weight (unite_parts a b)
parts_weighed a b h k p q =
    weighed_union part_cmp unite_part parts_total parts_same
    (λ (old : Component) (new : Component). sound_new new.sigs old.sigs) (λ (p : Component). sound_new p.sigs []) weight
    Rises
    (λ x r. same_weight _ _ _ (sigs_weighed x.sigs [] r tt))
    (λ x y e r t. same_weight _ _ _ (sigs_weighed x.sigs y.sigs r t))
    (λ x r. alone x)
    a b h k p q

-- ---- certificates

rising_parts : (key : List ℕ) (kind : ℕ) (ps : List Component) → AllByRecursion (IsPartOf key kind) ps
    → AllByRecursion Rises ps
rising_parts key kind [] h = tt
rising_parts key kind (p ∷ ps) h = (h.0.1.0, rising_parts key kind ps h.1)

places_marked : (rows : PolicyRows) (key other : List ℕ) (kind : ℕ) (a b : List Component) → ArePartsOf key kind a
    → ArePartsOf other kind b
    → judged_parts rows (unite_parts a b) a ≡ unite_parts a (map (part_with (judged_sig rows)) b)
places_marked rows key other kind a b h k =
    parts_marked rows a b h.0 k.0 (rising_parts key kind a h.1) (rising_parts other kind b k.1)

pub merged : (rows : PolicyRows) (a b : Certificate) → IsCertificate a → IsCertificate b
    → judged_beside rows a (unite a b) ≡ unite a (judged rows b)
merged rows a b h k =
    same_cert _ _ refl (sigs_marked rows a.direct b.direct h.direct.0 k.direct.0)
    (places_marked rows a.key b.key _ a.user_ids b.user_ids h.user_ids k.user_ids)
    (places_marked rows a.key b.key _ a.attributes b.attributes h.attributes k.attributes)
    (places_marked rows a.key b.key _ a.subkeys b.subkeys h.subkeys k.subkeys)

places_weighed : (key other : List ℕ) (kind : ℕ) (a b : List Component) → ArePartsOf key kind a
    → ArePartsOf other kind b → sound_new_on (unite_parts a b) a + sum_of weight a ≡ sum_of weight (unite_parts a b)
places_weighed key other kind a b h k =
    parts_weighed a b h.0 k.0 (rising_parts key kind a h.1) (rising_parts other kind b k.1)

four : (p q r s a b c d w x y z : ℕ) → p + a ≡ w → q + b ≡ x → r + c ≡ y → s + d ≡ z
    → (p + q + r + s) + (a + b + c + d) ≡ w + x + y + z
four p q r s a b c d w x y z e f g h = omega arith

-- The policy is asked as many times as the merged certificate has more well-formed signatures.
pub merged_sound : (a b : Certificate) → IsCertificate a → IsCertificate b
    → sound_beside a (unite a b) + sound_of a ≡ sound_of (unite a b)
merged_sound a b h k =
    four _ _ _ _ _ _ _ _ _ _ _ _ (sigs_weighed a.direct b.direct h.direct.0 k.direct.0)
    (places_weighed a.key b.key _ a.user_ids b.user_ids h.user_ids k.user_ids)
    (places_weighed a.key b.key _ a.attributes b.attributes h.attributes k.attributes)
    (places_weighed a.key b.key _ a.subkeys b.subkeys h.subkeys k.subkeys)

-- ---- with no old ones

parts_alone : (rows r : PolicyRows) (ps qs : List Component) → r ≡ rows → qs ≡ judged_parts r ps []
    → qs ≡ map (part_with (judged_sig rows)) ps
parts_alone rows r ps qs e h =
    h
    ∙ ap (λ (other : PolicyRows). judged_parts other ps []) e
    ∙ all_new part_cmp (λ (old : Component) (new : Component). judged_part rows old.sigs new) (judged_part rows []) ps
    ∙ only_same rows ps

-- If nothing is old, everything is marked.
pub all_marked : (rows r2 r3 r4 : PolicyRows) (c : Certificate) (d : List Signature) (u t s : List Component)
    → r2 ≡ rows → r3 ≡ rows → r4 ≡ rows → d ≡ judged_sigs rows c.direct [] → u ≡ judged_parts r2 c.user_ids []
    → t ≡ judged_parts r3 c.attributes [] → s ≡ judged_parts r4 c.subkeys [] → of_parts c.key d u t s ≡ judged rows c
all_marked rows r2 r3 r4 c d u t s e2 e3 e4 ed eu et es =
    same_cert _ _ refl (ed ∙ all_new sig_cmp stays (judged_sig rows) c.direct) (parts_alone rows r2 c.user_ids u e2 eu)
    (parts_alone rows r3 c.attributes t e3 et) (parts_alone rows r4 c.subkeys s e4 es)

sound_alone : (ps : List Component) → sound_new_on ps [] ≡ sum_of weight ps
sound_alone [] = refl
sound_alone (p ∷ ps) = λ i. alone p i + sound_alone ps i

-- If nothing is old, the policy is asked about each well-formed signature.
pub all_asked : (c : Certificate) (d u t s : ℕ) → d ≡ sound_new c.direct [] → u ≡ sound_new_on c.user_ids []
    → t ≡ sound_new_on c.attributes [] → s ≡ sound_new_on c.subkeys [] → d + u + t + s ≡ sound_of c
all_asked c d u t s ed eu et es =
    let direct : d ≡ sum_of if_sound c.direct = ed ∙ nothing_old c.direct in
    let ids : u ≡ sum_of weight c.user_ids = eu ∙ sound_alone c.user_ids in
    let attributes : t ≡ sum_of weight c.attributes = et ∙ sound_alone c.attributes in
    let subkeys : s ≡ sum_of weight c.subkeys = es ∙ sound_alone c.subkeys in
    λ i. direct i + ids i + attributes i + subkeys i

-- ---- marked

pub sigs_judged : (rows : PolicyRows) (ys : List Signature)
    → AllByRecursion (IsJudgedSig rows) (map (judged_sig rows) ys)
sigs_judged rows [] = tt
sigs_judged rows (y ∷ ys) = (λ _. refl, sigs_judged rows ys)

pub parts_judged : (rows : PolicyRows) (ps : List Component)
    → AllByRecursion (IsJudgedPart rows) (map (part_with (judged_sig rows)) ps)
parts_judged rows [] = tt
parts_judged rows (p ∷ ps) = (sigs_judged rows p.sigs, parts_judged rows ps)

unite_sigs_judged : (rows : PolicyRows) (a b : List Signature) → AllByRecursion (IsJudgedSig rows) a
    → AllByRecursion (IsJudgedSig rows) b → AllByRecursion (IsJudgedSig rows) (unite_sigs a b)
unite_sigs_judged rows a b h k = united_all sig_cmp kept (IsJudgedSig rows) (λ x y e p q. p) a b h k

unite_parts_judged : (rows : PolicyRows) (a b : List Component) → AllByRecursion (IsJudgedPart rows) a
    → AllByRecursion (IsJudgedPart rows) b → AllByRecursion (IsJudgedPart rows) (unite_parts a b)
unite_parts_judged rows a b h k =
    united_all part_cmp unite_part (IsJudgedPart rows) (λ x y e p q. unite_sigs_judged rows x.sigs y.sigs p q) a b h k

-- What is marked, merged with what the rows mark, is marked.
pub merged_judged : (rows : PolicyRows) (a b : Certificate) → IsJudged rows a → IsJudged rows (unite a (judged rows b))
merged_judged rows a b h = record {
  direct = unite_sigs_judged rows a.direct _ h.direct (sigs_judged rows b.direct);
  user_ids = unite_parts_judged rows a.user_ids _ h.user_ids (parts_judged rows b.user_ids);
  attributes = unite_parts_judged rows a.attributes _ h.attributes (parts_judged rows b.attributes);
  subkeys = unite_parts_judged rows a.subkeys _ h.subkeys (parts_judged rows b.subkeys);
}
