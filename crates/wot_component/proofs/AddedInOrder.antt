-- The walk over two lists in order that adds up what the second one brings.
use Rattle.std.proofs.Common.{◌≡◌, ℕ, ◌+◌, ◌≤◌, ◌<◌, List, [], ◌∷◌, sym, ap, ◌∙◌, arith, length}
use Rattle.std.proofs.lemmas.List.{nil_from_length}
use Rattle.std.specs.declared.cmp.Ordering.{Ordering}
use Rattle.std.specs.declared.cmp.Ordering.TheVariants.{Less, Equal, Greater}
use Rattle.std.specs.Cmp.{IsTotalOrder}
use Rattle.std.specs.List.{AllByRecursion}
use Rattle.wot_component.specs.declared.adds.Adds.{Adds}
use Rattle.wot_component.specs.Counts.{sum_of}
use Rattle.wot_component.specs.Ranked.{united, IsRising}
use Rattle.wot_component.specs.Sizes.{Brings, Weighs, IsSum, IsFew}
use Rattle.wot_component.proofs.Rank.{less, equal, greater, only}
use Rattle.wot_component.proofs.Weights.{united_more}

-- what was added so far, and what is left
pub record Left {A : Type 0} (R : A → A → Ordering) (join : A → A → A) (m : A → ℕ) (acc : ℕ)
    (a b left right : List A) : Type 0 where
  pub inside : sum_of m left ≤ sum_of m a
  pub sum : acc + sum_of m (united R join left right) + sum_of m a ≡ sum_of m (united R join a b) + sum_of m left

pub record Adding {A : Type 0} (R : A → A → Ordering) (join : A → A → A) (wi ws wo : A → ℕ) (Fits : A → Type 0)
    (adds : Adds) (a b left right : List A) : Type 0 where
  pub left_rises : IsRising R left
  pub right_rises : IsRising R right
  pub fit : AllByRecursion Fits right
  pub items : Left R join wi adds.items a b left right
  pub signatures : Left R join ws adds.signatures a b left right
  pub octets : Left R join wo adds.octets a b left right

less_inside : (l x l' a : ℕ) → l ≡ x + l' → l ≤ a → l' ≤ a
less_inside l x l' a e h = omega arith

less_sum : (acc u u' a t l l' x : ℕ) → u ≡ x + u' → l ≡ x + l' → acc + u + a ≡ t + l → acc + u' + a ≡ t + l'
less_sum acc u u' a t l l' x e f h = omega arith

equal_sum : (acc acc' e u u' a t l l' x j : ℕ) → u ≡ j + u' → l ≡ x + l' → acc' ≡ acc + e → e + x ≡ j
    → acc + u + a ≡ t + l → acc' + u' + a ≡ t + l'
equal_sum acc acc' e u u' a t l l' x j p q r s h = omega arith

greater_sum : (acc acc' e u u' a t l y : ℕ) → u ≡ y + u' → acc' ≡ acc + e → e ≡ y → acc + u + a ≡ t + l
    → acc' + u' + a ≡ t + l
greater_sum acc acc' e u u' a t l y p q r h = omega arith

ended : (acc a t l u : ℕ) → u ≡ l → acc + u + a ≡ t + l → acc + a ≡ t
ended acc a t l u e h = omega arith

bound : (acc u u' a t l y p : ℕ) → u ≡ y + u' → l ≤ u' → acc + u + a ≡ t + l → t < p → acc + y < p
bound acc u u' a t l y p e f h k = omega arith

bound_joined : (acc u u' a t l l' x j e p : ℕ) → u ≡ j + u' → l ≡ x + l' → l' ≤ u' → l ≤ a → e + x ≡ j
    → acc + u + a ≡ t + l → t < p → acc + e < p
bound_joined acc u u' a t l l' x j e p q r s v w h k = omega arith

bound_alone : (acc u u' a t l l' x j p : ℕ) → u ≡ j + u' → l ≡ x + l' → l' ≤ u' → l ≤ a → acc + u + a ≡ t + l → t < p
    → j < p
bound_alone acc u u' a t l l' x j p q r s v h k = omega arith

module _ {A : Type 0} (R : A → A → Ordering) (join : A → A → A) (o : IsTotalOrder R)
    (same : (x y : A) → R x y ≡ Equal → (z : A) → R z (join x y) ≡ R z x) (m : A → ℕ) where
  abbrev total : List A → ℕ
  total = sum_of m

  abbrev L : ℕ → List A → List A → List A → List A → Type 0
  L = Left R join m

  united_less : (x : A) (xs : List A) (y : A) (ys left right : List A) → left ≡ x ∷ xs → right ≡ y ∷ ys
      → IsRising R right → R x y ≡ Less → total (united R join left right) ≡ m x + total (united R join xs right)
  united_less x xs y ys left right l r rr h =
      let rise : IsRising R (y ∷ ys) = rw r at rr in
      rw (l, r) (ap total (less R join o same x xs y ys rise h))

  united_equal : (x : A) (xs : List A) (y : A) (ys left right : List A) → left ≡ x ∷ xs → right ≡ y ∷ ys
      → IsRising R right → R x y ≡ Equal → total (united R join left right) ≡ m (join x y) + total (united R join xs ys)
  united_equal x xs y ys left right l r rr h =
      let rise : IsRising R (y ∷ ys) = rw r at rr in
      rw (l, r) (ap total (equal R join o same x xs y ys rise h))

  united_greater : (x : A) (xs : List A) (y : A) (ys left right : List A) → left ≡ x ∷ xs → right ≡ y ∷ ys
      → IsRising R left → IsRising R right → R x y ≡ Greater
      → total (united R join left right) ≡ m y + total (united R join left ys)
  united_greater x xs y ys left right l r lr rr h =
      let rise : IsRising R (y ∷ ys) = rw r at rr in
      let prefix : IsRising R (x ∷ xs) = rw l at lr in
      rw (l, r) (ap total (greater R join o same x xs y ys prefix rise h))

  united_none : (y : A) (ys left right : List A) → left ≡ [] → right ≡ y ∷ ys → IsRising R right
      → total (united R join left right) ≡ m y + total (united R join left ys)
  united_none y ys left right l r rr =
      let rise : IsRising R (y ∷ ys) = rw r at rr in
      rw (l, r) (ap total (only R join o same (y ∷ ys) rise)
      ∙ ap (λ zs. m y + total zs) (sym (only R join o same ys rise.1)))

  pub left_less : (acc : ℕ) (a b left right : List A) (x : A) (xs : List A) (y : A) (ys : List A) → L acc a b left right
      → left ≡ x ∷ xs → right ≡ y ∷ ys → IsRising R right → R x y ≡ Less → L acc a b xs right
  left_less acc a b left right x xs y ys w l r rr h = record {
    inside = less_inside _ (m x) _ _ (ap total l) w.inside;
    sum = less_sum acc _ _ _ _ _ _ (m x) (united_less x xs y ys left right l r rr h) (ap total l) w.sum;
  }

  pub left_equal : (acc acc' e : ℕ) (a b left right : List A) (x : A) (xs : List A) (y : A) (ys : List A)
      → L acc a b left right → left ≡ x ∷ xs → right ≡ y ∷ ys → IsRising R right → R x y ≡ Equal → acc' ≡ acc + e
      → e + m x ≡ m (join x y) → L acc' a b xs ys
  left_equal acc acc' e a b left right x xs y ys w l r rr h s j = record {
    inside = less_inside _ (m x) _ _ (ap total l) w.inside;
    sum = equal_sum acc acc' e _ _ _ _ _ _ (m x) (m (join x y)) (united_equal x xs y ys left right l r rr h)
        (ap total l) s j w.sum;
  }

  pub left_greater : (acc acc' e : ℕ) (a b left right ys : List A) (y : A)
      → total (united R join left right) ≡ m y + total (united R join left ys) → L acc a b left right → acc' ≡ acc + e
      → e ≡ m y → L acc' a b left ys
  left_greater acc acc' e a b left right ys y u w s j =
      record { inside = w.inside; sum = greater_sum acc acc' e _ _ _ _ _ (m y) u s j w.sum }

  pub left_ended : (acc : ℕ) (a b left right : List A) → L acc a b left right → length right ≡ 0
      → acc + total a ≡ total (united R join a b)
  left_ended acc a b left right w n =
      ended acc _ _ _ _ (ap (λ zs. total (united R join left zs)) (nil_from_length right n)) w.sum

  module _ (least : (x y : A) → m x ≤ m (join x y)) where
    pub few_new : (acc p : ℕ) (a b left right ys : List A) (y : A)
        → total (united R join left right) ≡ m y + total (united R join left ys) → L acc a b left right
        → total (united R join a b) < p → acc + m y < p
    few_new acc p a b left right ys y u w k = bound acc _ _ _ _ _ (m y) p u (united_more R join m least left ys) w.sum k

    pub few_joined : (acc e p : ℕ) (a b left right : List A) (x : A) (xs : List A) (y : A) (ys : List A)
        → L acc a b left right → left ≡ x ∷ xs → right ≡ y ∷ ys → IsRising R right → R x y ≡ Equal
        → e + m x ≡ m (join x y) → total (united R join a b) < p → acc + e < p
    few_joined acc e p a b left right x xs y ys w l r rr h j k =
        bound_joined acc _ _ _ _ _ _ (m x) (m (join x y)) e p (united_equal x xs y ys left right l r rr h) (ap total l)
        (united_more R join m least xs ys) w.inside j w.sum k

    pub few_alone : (acc p : ℕ) (a b left right : List A) (x : A) (xs : List A) (y : A) (ys : List A)
        → L acc a b left right → left ≡ x ∷ xs → right ≡ y ∷ ys → IsRising R right → R x y ≡ Equal
        → total (united R join a b) < p → m (join x y) < p
    few_alone acc p a b left right x xs y ys w l r rr h k =
        bound_alone acc _ _ _ _ _ _ (m x) (m (join x y)) p (united_equal x xs y ys left right l r rr h) (ap total l)
        (united_more R join m least xs ys) w.inside w.sum k

module _ {A : Type 0} (R : A → A → Ordering) (join : A → A → A) (o : IsTotalOrder R)
    (same : (x y : A) → R x y ≡ Equal → (z : A) → R z (join x y) ≡ R z x)
    (wi ws wo : A → ℕ) (Fits : A → Type 0) where
  abbrev W : Adds → List A → List A → List A → List A → Type 0
  W = Adding R join wi ws wo Fits

  rest_fits : (right : List A) (y : A) (ys : List A) → right ≡ y ∷ ys → AllByRecursion Fits right
      → AllByRecursion Fits (y ∷ ys)
  rest_fits right y ys e h = rw e at h

  rest_rises : (right : List A) (y : A) (ys : List A) → right ≡ y ∷ ys → IsRising R right → IsRising R (y ∷ ys)
  rest_rises right y ys e h = rw e at h

  pub adding_less : (adds : Adds) (a b left right : List A) (x : A) (xs : List A) (y : A) (ys : List A)
      → W adds a b left right → left ≡ x ∷ xs → right ≡ y ∷ ys → R x y ≡ Less → W adds a b xs right
  adding_less adds a b left right x xs y ys w l r h = record {
    left_rises = (rest_rises left x xs l w.left_rises).1;
    right_rises = w.right_rises;
    fit = w.fit;
    items = left_less R join o same wi _ a b left right x xs y ys w.items l r w.right_rises h;
    signatures = left_less R join o same ws _ a b left right x xs y ys w.signatures l r w.right_rises h;
    octets = left_less R join o same wo _ a b left right x xs y ys w.octets l r w.right_rises h;
  }

  pub adding_equal : (adds adds' e : Adds) (a b left right : List A) (x : A) (xs : List A) (y : A) (ys : List A)
      → W adds a b left right → left ≡ x ∷ xs → right ≡ y ∷ ys → R x y ≡ Equal → IsSum adds' adds e
      → e.items + wi x ≡ wi (join x y) → e.signatures + ws x ≡ ws (join x y) → e.octets + wo x ≡ wo (join x y)
      → W adds' a b xs ys
  adding_equal adds adds' e a b left right x xs y ys w l r h s i j k = record {
    left_rises = (rest_rises left x xs l w.left_rises).1;
    right_rises = (rest_rises right y ys r w.right_rises).1;
    fit = (rest_fits right y ys r w.fit).1;
    items = left_equal R join o same wi _ _ e.items a b left right x xs y ys w.items l r w.right_rises h s.items i;
    signatures = left_equal R join o same ws _ _ e.signatures a b left right x xs y ys w.signatures l r w.right_rises h
        s.signatures j;
    octets = left_equal R join o same wo _ _ e.octets a b left right x xs y ys w.octets l r w.right_rises h s.octets k;
  }

  -- Either nothing is left, or its first one is greater.
  pub record Ahead (left right ys : List A) (y : A) : Type 0 where
    pub is : right ≡ y ∷ ys
    pub ahead : (m : A → ℕ) → sum_of m (united R join left right) ≡ m y + sum_of m (united R join left ys)

  pub ahead_greater : (left right : List A) (x : A) (xs : List A) (y : A) (ys : List A) → left ≡ x ∷ xs → right ≡ y ∷ ys
      → IsRising R left → IsRising R right → R x y ≡ Greater → Ahead left right ys y
  ahead_greater left right x xs y ys l r lr rr h =
      record { is = r; ahead = λ m. united_greater R join o same m x xs y ys left right l r lr rr h }

  pub ahead_none : (left right : List A) (y : A) (ys : List A) → length left ≡ 0 → right ≡ y ∷ ys → IsRising R right
      → Ahead left right ys y
  ahead_none left right y ys n r rr =
      record { is = r; ahead = λ m. united_none R join o same m y ys left right (nil_from_length left n) r rr }

  pub adding_new : (adds adds' e : Adds) (a b left right ys : List A) (y : A) → W adds a b left right
      → Ahead left right ys y → IsSum adds' adds e → Weighs wi ws wo e y → W adds' a b left ys
  adding_new adds adds' e a b left right ys y w h s g = record {
    left_rises = w.left_rises;
    right_rises = (rest_rises right y ys h.is w.right_rises).1;
    fit = (rest_fits right y ys h.is w.fit).1;
    items = left_greater R join o same wi _ _ e.items a b left right ys y (h.ahead wi) w.items s.items g.items;
    signatures = left_greater R join o same ws _ _ e.signatures a b left right ys y (h.ahead ws) w.signatures
        s.signatures g.signatures;
    octets = left_greater R join o same wo _ _ e.octets a b left right ys y (h.ahead wo) w.octets s.octets g.octets;
  }

  pub adding_ended : (adds : Adds) (a b left right : List A) → W adds a b left right → length right ≡ 0
      → Brings wi ws wo adds a (united R join a b)
  adding_ended adds a b left right w n = record {
    items = left_ended R join o same wi _ a b left right w.items n;
    signatures = left_ended R join o same ws _ a b left right w.signatures n;
    octets = left_ended R join o same wo _ a b left right w.octets n;
  }

  pub few_adds : (adds e : Adds) (p : ℕ) (a b left right ys : List A) (y : A) → ((x z : A) → wi x ≤ wi (join x z))
      → ((x z : A) → ws x ≤ ws (join x z)) → ((x z : A) → wo x ≤ wo (join x z))
      → W adds a b left right → Ahead left right ys y → Weighs wi ws wo e y
      → sum_of wi (united R join a b) < p → sum_of ws (united R join a b) < p → sum_of wo (united R join a b) < p
      → IsFew p adds e
  few_adds adds e p a b left right ys y li ls lo w h g i j k =
      let fi = few_new R join o same wi li adds.items p a b left right ys y (h.ahead wi) w.items i in
      let fs = few_new R join o same ws ls adds.signatures p a b left right ys y (h.ahead ws) w.signatures j in
      let fo = few_new R join o same wo lo adds.octets p a b left right ys y (h.ahead wo) w.octets k in
      record {
        items = put_in adds.items e.items (wi y) p g.items fi;
        signatures = put_in adds.signatures e.signatures (ws y) p g.signatures fs;
        octets = put_in adds.octets e.octets (wo y) p g.octets fo;
      }
    where
      put_in : (acc e m p : ℕ) → e ≡ m → acc + m < p → acc + e < p
      put_in acc e m p q h = omega arith
