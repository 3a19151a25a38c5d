-- A merged certificate that weighs no more than the first one is that one, and marks weigh nothing.
use Rattle.std.proofs.Common.{◌≡◌, ℕ, ◌+◌, ◌≤◌, Bool, false, List, [], ◌∷◌, ◌++◌, map, length, refl, sym, ap, ◌∙◌}
use Rattle.std.proofs.Common.{subst, arith}
use Rattle.std.specs.declared.cmp.Ordering.{Ordering}
use Rattle.std.specs.declared.cmp.Ordering.TheVariants.{Less, Equal, Greater}
use Rattle.wot_packet.specs.Writing.{written}
use Rattle.wot_component.specs.Certificate.{Signature, Component, Certificate, kept, sig_cmp, part_cmp, unite, unite_sigs}
use Rattle.wot_component.specs.Certificate.{unite_part, unite_parts, part_with, with_each, unmarked}
use Rattle.wot_component.specs.Counts.{sum_of, part_weight, weight_of, items_of, signatures_of}
use Rattle.wot_component.specs.Judged.{if_sound, sound_of}
use Rattle.wot_component.specs.Ranked.{put, placed, united}
use Rattle.wot_component.specs.Sizes.{sig_size, own_size}
use Rattle.wot_component.specs.Text.{sigs_text, parts_text, text_of, size_of}
use Rattle.wot_component.specs.Whole.{IsCertificate}
use Rattle.wot_cert.proofs.Same.{same_cert}
use Rattle.wot_component.proofs.TextSize.{some_octet, size_is}
use Rattle.wot_cert.proofs.UnionLaws.{commutes}
use Rattle.wot_component.proofs.Weights.{put_more, united_more, unite_less, unite_more}
use Rattle.wot_component.proofs.Wholes.{marked_as}

module _ {A : Type 0} (R : A → A → Ordering) (join : A → A → A) (m : A → ℕ) (some : (x : A) → 1 ≤ m x)
    (least : (x y : A) → m x ≤ m (join x y)) (stays : (x y : A) → m (join x y) ≡ m x → join x y ≡ x) where
  placed-same : (r : Ordering) (x y : A) (ys rest : List A) → sum_of m ys ≤ sum_of m rest
      → sum_of m (placed r join x y ys rest) ≡ m y + sum_of m ys → (sum_of m rest ≡ sum_of m ys → rest ≡ ys)
      → placed r join x y ys rest ≡ y ∷ ys
  placed-same Less x y ys rest h e f = let one = some x in absurd (omega arith)
  placed-same Equal x y ys rest h e f =
      let same : m (join y x) ≡ m y = omega arith in
      ap (λ (z : A). z ∷ ys) (stays y x same)
  placed-same Greater x y ys rest h e f =
      let same : sum_of m rest ≡ sum_of m ys = omega arith in
      ap (λ (zs : List A). y ∷ zs) (f same)

  put-same : (x : A) (ys : List A) → sum_of m (put R join x ys) ≡ sum_of m ys → put R join x ys ≡ ys
  put-same x [] e = let one = some x in absurd (omega arith)
  put-same x (y ∷ ys) e = placed-same (R x y) x y ys (put R join x ys) (put_more R join m least x ys) e (put-same x ys)

  pub united-same : (xs ys : List A) → sum_of m (united R join xs ys) ≡ sum_of m xs → united R join xs ys ≡ xs
  united-same xs [] e = refl
  united-same xs (y ∷ ys) e =
      let first : sum_of m xs ≤ sum_of m (united R join xs ys) = united_more R join m least xs ys in
      let then : sum_of m (united R join xs ys) ≤ sum_of m (put R join y (united R join xs ys)) =
      put_more R join m least y (united R join xs ys) in
      let same : sum_of m (united R join xs ys) ≡ sum_of m xs = omega arith in
      let stands : united R join xs ys ≡ xs = united-same xs ys same in
      ap (put R join y) stands ∙ put-same y xs (ap (λ (zs : List A). sum_of m (put R join y zs)) (sym stands) ∙ e)

module _ (sig : Signature → ℕ) (own : Component → ℕ) (sig-some : (s : Signature) → 1 ≤ sig s)
    (own-some : (p : Component) → 1 ≤ own p) (own-same : (x y : Component) → own (unite_part x y) ≡ own x) where
  at-least : (n : ℕ) → n ≤ n
  at-least n = omega arith

  sigs-same : (a b : List Signature) → sum_of sig (unite_sigs a b) ≡ sum_of sig a → unite_sigs a b ≡ a
  sigs-same a b e = united-same sig_cmp kept sig sig-some (λ x y. at-least (sig x)) (λ x y e. refl) a b e

  sigs-more : (a b : List Signature) → sum_of sig a ≤ sum_of sig (unite_sigs a b)
  sigs-more a b = united_more sig_cmp kept sig (λ x y. at-least (sig x)) a b

  part-some : (p : Component) → 1 ≤ part_weight sig own p
  part-some p = omega (arith, own-some p)

  part-least : (x y : Component) → part_weight sig own x ≤ part_weight sig own (unite_part x y)
  part-least x y = omega (arith, own-same x y, sigs-more x.sigs y.sigs)

  part-same : (x y : Component) → part_weight sig own (unite_part x y) ≡ part_weight sig own x → unite_part x y ≡ x
  part-same x y e =
      let same : sum_of sig (unite_sigs x.sigs y.sigs) ≡ sum_of sig x.sigs = omega (arith, own-same x y) in
      ap (λ (sigs : List Signature). record x { sigs = sigs }) (sigs-same x.sigs y.sigs same)

  parts-same : (a b : List Component) → sum_of (part_weight sig own) (unite_parts a b) ≡ sum_of (part_weight sig own) a
      → unite_parts a b ≡ a
  parts-same a b e = united-same part_cmp unite_part (part_weight sig own) part-some part-least part-same a b e

  parts-more : (a b : List Component) → sum_of (part_weight sig own) a ≤ sum_of (part_weight sig own) (unite_parts a b)
  parts-more a b = united_more part_cmp unite_part (part_weight sig own) part-least a b

  each-same : (a b c d w x y z : ℕ) → a ≤ w → b ≤ x → c ≤ y → d ≤ z → w + x + y + z ≡ a + b + c + d
      → (w ≡ a) × (x ≡ b) × (y ≡ c) × (z ≡ d)
  each-same a b c d w x y z e f g h k = (omega arith, omega arith, omega arith, omega arith)

  -- What weighs no more than before is as before.
  pub cert-same : (a b : Certificate) → weight_of sig own (unite a b) ≡ weight_of sig own a → unite a b ≡ a
  cert-same a b e =
      let s = each-same _ _ _ _ _ _ _ _ (sigs-more a.direct b.direct) (parts-more a.user_ids b.user_ids)
      (parts-more a.attributes b.attributes) (parts-more a.subkeys b.subkeys) e in
      same_cert _ _ refl (sigs-same a.direct b.direct s.0) (parts-same a.user_ids b.user_ids s.1)
      (parts-same a.attributes b.attributes s.2) (parts-same a.subkeys b.subkeys s.3)

-- ---- marks

module _ (mark : Signature → Bool) (sig : Signature → ℕ) (own : Component → ℕ)
    (sig-as : (s : Signature) → sig (marked_as mark s) ≡ sig s)
    (own-as : (p : Component) → own (part_with (marked_as mark) p) ≡ own p) where
  mapped-sum : {A : Type 0} (m : A → ℕ) (f : A → A) → ((x : A) → m (f x) ≡ m x) → (xs : List A)
      → sum_of m (map f xs) ≡ sum_of m xs
  mapped-sum m f e [] = refl
  mapped-sum m f e (x ∷ xs) = λ i. e x i + mapped-sum m f e xs i

  marked-part : (p : Component) → part_weight sig own (part_with (marked_as mark) p) ≡ part_weight sig own p
  marked-part p = λ i. own-as p i + mapped-sum sig (marked_as mark) sig-as p.sigs i

  pub marked-weight : (c : Certificate) → weight_of sig own (with_each (marked_as mark) c) ≡ weight_of sig own c
  marked-weight c = λ i.
      mapped-sum sig (marked_as mark) sig-as c.direct i
      + mapped-sum (part_weight sig own) (part_with (marked_as mark)) marked-part c.user_ids i
      + mapped-sum (part_weight sig own) (part_with (marked_as mark)) marked-part c.attributes i
      + mapped-sum (part_weight sig own) (part_with (marked_as mark)) marked-part c.subkeys i

-- ---- what certificates hold

abbrev one : {A : Type 0} → A → ℕ
one x = 1

some-one : 1 ≤ 1
some-one = omega arith

cancelled : (k a b : ℕ) → k + b ≡ k + a → b ≡ a
cancelled k a b e = omega arith

pub items-same : (a b : Certificate) → items_of (unite a b) ≡ items_of a → unite a b ≡ a
items-same a b e = cert-same one one (λ s. some-one) (λ p. some-one) (λ x y. refl) a b (cancelled 1 _ _ e)

pub size-same : (a b : Certificate) → size_of (unite a b) ≡ size_of a → unite a b ≡ a
size-same a b e =
    cert-same sig_size own_size (λ s. some_octet 2 s.body) (λ p. some_octet 13 p.body) (λ x y. refl) a b
    (cancelled (length (written 6 a.key)) _ _ (sym (size_is (unite a b)) ∙ e ∙ size_is a))

more : (k a b : ℕ) → a ≤ b → k + a ≤ k + b
more k a b h = omega arith

pub items-more : (a b : Certificate) → items_of a ≤ items_of (unite a b)
items-more a b = more 1 _ _ (unite_more one one (λ x y. refl) a b)

pub signatures-more : (a b : Certificate) → signatures_of a ≤ signatures_of (unite a b)
signatures-more a b = unite_more one (λ _. 0) (λ x y. refl) a b

pub signatures-less : (a b : Certificate) → signatures_of (unite a b) ≤ signatures_of a + signatures_of b
signatures-less a b = unite_less one (λ _. 0) (λ x y. refl) a b

pub sound-more : (a b : Certificate) → sound_of a ≤ sound_of (unite a b)
sound-more a b = unite_more if_sound (λ _. 0) (λ x y. refl) a b

moved : (k a b n m : ℕ) → n ≡ k + a → m ≡ k + b → a ≤ b → n ≤ m
moved k a b n m e f h = omega arith

pub size-more : (a b : Certificate) → size_of a ≤ size_of (unite a b)
size-more a b =
    moved (length (written 6 a.key)) _ _ _ _ (size_is a) (size_is (unite a b))
    (unite_more sig_size own_size (λ x y. refl) a b)

-- ---- marks change none of it

module _ (mark : Signature → Bool) where
  pub items-marked : (c : Certificate) → items_of (with_each (marked_as mark) c) ≡ items_of c
  items-marked c = ap (λ (n : ℕ). 1 + n) (marked-weight mark one one (λ s. refl) (λ p. refl) c)

  pub signatures-marked : (c : Certificate) → signatures_of (with_each (marked_as mark) c) ≡ signatures_of c
  signatures-marked c = marked-weight mark one (λ _. 0) (λ s. refl) (λ p. refl) c

  pub sound-marked : (c : Certificate) → sound_of (with_each (marked_as mark) c) ≡ sound_of c
  sound-marked c = marked-weight mark if_sound (λ _. 0) (λ s. refl) (λ p. refl) c

  sigs-text : (sigs : List Signature) → sigs_text (map (marked_as mark) sigs) ≡ sigs_text sigs
  sigs-text [] = refl
  sigs-text (s ∷ sigs) = ap (λ (t : List ℕ). written 2 s.body ++ t) (sigs-text sigs)

  parts-text : (type : ℕ) (ps : List Component)
      → parts_text type (map (part_with (marked_as mark)) ps) ≡ parts_text type ps
  parts-text type [] = refl
  parts-text type (p ∷ ps) = λ i. (written type p.body ++ sigs-text p.sigs i) ++ parts-text type ps i

  pub text-marked : (c : Certificate) → text_of (with_each (marked_as mark) c) ≡ text_of c
  text-marked c =
      λ i. written 6 c.key ++ sigs-text c.direct i ++ parts-text 13 c.user_ids i ++ parts-text 17 c.attributes
      i ++ parts-text 14 c.subkeys i

-- ---- the second part

alike : (w : Certificate → ℕ) → ((c : Certificate) → w (unmarked c) ≡ w c) → ((a b : Certificate) → w a ≤ w (unite a b))
    → (a b : Certificate) → IsCertificate a → IsCertificate b → a.key ≡ b.key → w b ≤ w (unite a b)
alike w same grows a b h k e =
    subst (λ (n : ℕ). w b ≤ n) (sym (same (unite b a)) ∙ ap w (sym (commutes a b h k e)) ∙ same (unite a b)) (grows b a)

pub items-both : (a b : Certificate) → IsCertificate a → IsCertificate b → a.key ≡ b.key
    → items_of b ≤ items_of (unite a b)
items-both = alike items_of (items-marked (λ _. false)) items-more

pub signatures-both : (a b : Certificate) → IsCertificate a → IsCertificate b → a.key ≡ b.key
    → signatures_of b ≤ signatures_of (unite a b)
signatures-both = alike signatures_of (signatures-marked (λ _. false)) signatures-more

pub size-both : (a b : Certificate) → IsCertificate a → IsCertificate b → a.key ≡ b.key
    → size_of b ≤ size_of (unite a b)
size-both = alike size_of (λ c. ap (λ (t : List ℕ). length t) (text-marked (λ _. false) c)) size-more
