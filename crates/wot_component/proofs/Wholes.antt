-- Marking and merging keep the invariant of certificates.
use Rattle.std.proofs.Common.{◌≡◌, ℕ, Bool, List, [], ◌∷◌, map, refl, sym, subst}
use Rattle.std.specs.declared.cmp.Ordering.{Ordering}
use Rattle.std.specs.declared.cmp.Ordering.TheVariants.{Less, Equal, Greater}
use Rattle.std.specs.List.{AllByRecursion}
use Rattle.wot_component.specs.Ranked.{put, placed, united, IsBelow, IsRising}
use Rattle.wot_component.specs.Certificate.{Signature, Component, Certificate, sig_cmp, part_cmp, kept, unite, unite_sigs}
use Rattle.wot_component.specs.Certificate.{unite_part, unite_parts, part_with, with_each, on_key, on_user_id, on_attribute}
use Rattle.wot_component.specs.Certificate.{on_subkey}
use Rattle.wot_component.specs.Whole.{IsSigAt, AreSigsAt, IsPartOf, ArePartsOf, IsCertificate}
use Rattle.wot_component.proofs.Rank.{united_rises}
use Rattle.wot_component.proofs.Walk.{sigs_total, kept_same, parts_total, parts_same}
use Rattle.wot_component.proofs.Bodies.{bodies_equal}

-- ---- marks

abbrev pub marked_as : (Signature → Bool) → Signature → Signature
marked_as mark s = record { body = s.body; number = s.number; admitted = mark s }

marked_below : (mark : Signature → Bool) (x : Signature) (ys : List Signature) → IsBelow sig_cmp x ys
    → IsBelow sig_cmp (marked_as mark x) (map (marked_as mark) ys)
marked_below mark x [] h = tt
marked_below mark x (y ∷ ys) h = (h.0, marked_below mark x ys h.1)

pub marked_rises : (mark : Signature → Bool) (xs : List Signature) → IsRising sig_cmp xs
    → IsRising sig_cmp (map (marked_as mark) xs)
marked_rises mark [] h = tt
marked_rises mark (x ∷ xs) h = (marked_below mark x xs h.0, marked_rises mark xs h.1)

marked_at : (mark : Signature → Bool) (key : List ℕ) (kind : ℕ) (component : List ℕ) (xs : List Signature)
    → AllByRecursion (IsSigAt key kind component) xs
    → AllByRecursion (IsSigAt key kind component) (map (marked_as mark) xs)
marked_at mark key kind component [] h = tt
marked_at mark key kind component (x ∷ xs) h = (h.0, marked_at mark key kind component xs h.1)

marked_sigs : (mark : Signature → Bool) (key : List ℕ) (kind : ℕ) (component : List ℕ) (xs : List Signature)
    → AreSigsAt key kind component xs → AreSigsAt key kind component (map (marked_as mark) xs)
marked_sigs mark key kind component xs h = (marked_rises mark xs h.0, marked_at mark key kind component xs h.1)

parts_below : (mark : Signature → Bool) (x : Component) (ys : List Component) → IsBelow part_cmp x ys
    → IsBelow part_cmp (part_with (marked_as mark) x) (map (part_with (marked_as mark)) ys)
parts_below mark x [] h = tt
parts_below mark x (y ∷ ys) h = (h.0, parts_below mark x ys h.1)

parts_rise : (mark : Signature → Bool) (xs : List Component) → IsRising part_cmp xs
    → IsRising part_cmp (map (part_with (marked_as mark)) xs)
parts_rise mark [] h = tt
parts_rise mark (x ∷ xs) h = (parts_below mark x xs h.0, parts_rise mark xs h.1)

parts_of : (mark : Signature → Bool) (key : List ℕ) (kind : ℕ) (xs : List Component)
    → AllByRecursion (IsPartOf key kind) xs → AllByRecursion (IsPartOf key kind) (map (part_with (marked_as mark)) xs)
parts_of mark key kind [] h = tt
parts_of mark key kind (x ∷ xs) h =
    ((h.0.0, marked_sigs mark key kind x.body x.sigs h.0.1), parts_of mark key kind xs h.1)

marked_parts : (mark : Signature → Bool) (key : List ℕ) (kind : ℕ) (xs : List Component) → ArePartsOf key kind xs
    → ArePartsOf key kind (map (part_with (marked_as mark)) xs)
marked_parts mark key kind xs h = (parts_rise mark xs h.0, parts_of mark key kind xs h.1)

pub marked_whole : (mark : Signature → Bool) (c : Certificate) → IsCertificate c
    → IsCertificate (with_each (marked_as mark) c)
marked_whole mark c h = record {
  readable = h.readable;
  direct = marked_sigs mark c.key on_key [] c.direct h.direct;
  user_ids = marked_parts mark c.key on_user_id c.user_ids h.user_ids;
  attributes = marked_parts mark c.key on_attribute c.attributes h.attributes;
  subkeys = marked_parts mark c.key on_subkey c.subkeys h.subkeys;
}

-- ---- merging

module _ {A : Type 0} (R : A → A → Ordering) (join : A → A → A) (P : A → Type 0)
    (closed : (x y : A) → R y x ≡ Equal → P x → P y → P (join x y)) where
  placed_all : (r : Ordering) (x y : A) (ys rest : List A) → R x y ≡ r → P x → P y → AllByRecursion P ys
      → AllByRecursion P rest → AllByRecursion P (placed r join x y ys rest)
  placed_all Less x y ys rest e a b c d = (a, (b, c))
  placed_all Equal x y ys rest e a b c d = (closed y x e b a, c)
  placed_all Greater x y ys rest e a b c d = (b, d)

  put_all : (x : A) (ys : List A) → P x → AllByRecursion P ys → AllByRecursion P (put R join x ys)
  put_all x [] a h = (a, tt)
  put_all x (y ∷ ys) a h = placed_all (R x y) x y ys (put R join x ys) refl a h.0 h.1 (put_all x ys a h.1)

  pub united_all : (xs ys : List A) → AllByRecursion P xs → AllByRecursion P ys → AllByRecursion P (united R join xs ys)
  united_all xs [] a b = a
  united_all xs (y ∷ ys) a b = put_all y (united R join xs ys) b.0 (united_all xs ys a b.1)

unite_sigs_at : (key : List ℕ) (kind : ℕ) (component : List ℕ) (xs ys : List Signature)
    → AreSigsAt key kind component xs → AreSigsAt key kind component ys
    → AreSigsAt key kind component (unite_sigs xs ys)
unite_sigs_at key kind component xs ys a b = (
  united_rises sig_cmp kept sigs_total kept_same xs ys a.0,
  united_all sig_cmp kept (IsSigAt key kind component) (λ x y e h k. h) xs ys a.1 b.1,
)

part_closed : (key : List ℕ) (kind : ℕ) (x y : Component) → part_cmp y x ≡ Equal → IsPartOf key kind x
    → IsPartOf key kind y → IsPartOf key kind (unite_part x y)
part_closed key kind x y e h k =
    let At : List ℕ → Type 0 = λ body. AreSigsAt key kind body y.sigs in
    (h.0, unite_sigs_at key kind x.body x.sigs y.sigs h.1 (subst At (bodies_equal y.body x.body e) k.1))

unite_parts_of : (key : List ℕ) (kind : ℕ) (xs ys : List Component) → ArePartsOf key kind xs → ArePartsOf key kind ys
    → ArePartsOf key kind (unite_parts xs ys)
unite_parts_of key kind xs ys a b = (
  united_rises part_cmp unite_part parts_total parts_same xs ys a.0,
  united_all part_cmp unite_part (IsPartOf key kind) (part_closed key kind) xs ys a.1 b.1,
)

pub unite_whole : (a b : Certificate) → IsCertificate a → IsCertificate b → a.key ≡ b.key → IsCertificate (unite a b)
unite_whole a b h k e =
    let f : b.key ≡ a.key = sym e in
    let Sigs : List ℕ → Type 0 = λ key. AreSigsAt key on_key [] b.direct in
    let Parts : ℕ → List Component → List ℕ → Type 0 = λ kind parts key. ArePartsOf key kind parts in
    record {
      readable = h.readable;
      direct = unite_sigs_at a.key on_key [] a.direct b.direct h.direct (subst Sigs f k.direct);
      user_ids = unite_parts_of a.key on_user_id a.user_ids b.user_ids h.user_ids
          (subst (Parts on_user_id b.user_ids) f k.user_ids);
      attributes = unite_parts_of a.key on_attribute a.attributes b.attributes h.attributes
          (subst (Parts on_attribute b.attributes) f k.attributes);
      subkeys = unite_parts_of a.key on_subkey a.subkeys b.subkeys h.subkeys
          (subst (Parts on_subkey b.subkeys) f k.subkeys);
    }
