-- What a merged list has that the old list didn't have, in any order and with any join.
use Rattle.std.proofs.Common.{◌≡◌, ℕ, ◌+◌, List, [], ◌∷◌, map, Some, None, refl, sym, ap, ◌∙◌, arith}
use Rattle.std.specs.declared.cmp.Ordering.{Ordering}
use Rattle.std.specs.declared.cmp.Ordering.TheVariants.{Less, Equal, Greater}
use Rattle.std.specs.Ordering.{ordering_reverse}
use Rattle.std.specs.Cmp.{IsTotalOrder}
use Rattle.std.specs.List.{AllByRecursion}
use Rattle.wot_component.specs.Counts.{sum_of}
use Rattle.wot_component.specs.New.{met, marked_on, marked_new, weighed_on, weighed_new}
use Rattle.wot_component.specs.Ranked.{united, IsBelow, IsRising}
use Rattle.wot_component.proofs.Rank.{less, equal, greater}
use Rattle.wot_component.proofs.Rank.{only as only_right}

-- ---- finding

at_equal : {A : Type 0} (R : A → A → Ordering) (x y : A) (xs : List A) → R x y ≡ Equal → met R y (x ∷ xs) ≡ Some (x, xs)
at_equal R x y xs e = rw e refl

at_greater : {A : Type 0} (R : A → A → Ordering) (x y : A) (xs : List A) → R x y ≡ Greater → met R y (x ∷ xs) ≡ None
at_greater R x y xs e = rw e refl

itself : {A : Type 0} (R : A → A → Ordering) (o : IsTotalOrder R) (x : A) → R x x ≡ Equal
itself R o x = by (R x x) (o.antisymm x x)
  where
    by : (r : Ordering) → r ≡ ordering_reverse r → r ≡ Equal
    by Less e = cc
    by Equal e = refl
    by Greater e = cc

-- ---- marks

pub all_new : {A : Type 0} (R : A → A → Ordering) (both : A → A → A) (only : A → A) (ys : List A)
    → marked_new R both only ys [] ≡ map only ys
all_new R both only [] = refl
all_new R both only (y ∷ ys) = ap (λ zs. only y ∷ zs) (all_new R both only ys)

module _ {A : Type 0} (R : A → A → Ordering) (join : A → A → A) (o : IsTotalOrder R)
    (same : (x y : A) → R x y ≡ Equal → (z : A) → R z (join x y) ≡ R z x)
    (both : A → A → A) (only : A → A) (P : A → Type 0)
    (stays : (x : A) → P x → both x x ≡ x)
    (joined : (x y : A) → R x y ≡ Equal → P x → P y → both x (join x y) ≡ join x (only y))
    (left_as : (x y : A) → R (only x) y ≡ R x y) (right_as : (x y : A) → R x (only y) ≡ R x y) where
  only_below : (x : A) (ys : List A) → IsBelow R x ys → IsBelow R (only x) (map only ys)
  only_below x [] h = tt
  only_below x (y ∷ ys) h = (left_as x (only y) ∙ right_as x y ∙ h.0, only_below x ys h.1)

  only_rises : (ys : List A) → IsRising R ys → IsRising R (map only ys)
  only_rises [] h = tt
  only_rises (y ∷ ys) h = (only_below y ys h.0, only_rises ys h.1)

  abbrev Marks : List A → List A → Type 0
  Marks a b = marked_new R both only (united R join a b) a ≡ united R join a (map only b)

  abbrev marked : List A → List A → List A
  marked = marked_new R both only

  old_first : (x : A) (xs rest : List A) (y : A) → R x y ≡ Equal
      → marked (y ∷ rest) (x ∷ xs) ≡ both x y ∷ marked rest xs
  old_first x xs rest y e = ap (λ found. marked_on both only found y (x ∷ xs) (marked rest)) (at_equal R x y xs e)

  new_first : (x : A) (xs rest : List A) (y : A) → R x y ≡ Greater
      → marked (y ∷ rest) (x ∷ xs) ≡ only y ∷ marked rest (x ∷ xs)
  new_first x xs rest y e = ap (λ found. marked_on both only found y (x ∷ xs) (marked rest)) (at_greater R x y xs e)

  inner : (x : A) (xs : List A) → IsRising R (x ∷ xs) → P x
      → ((b : List A) → IsRising R b → AllByRecursion P b → Marks xs b) → (b : List A) → IsRising R b
      → AllByRecursion P b → Marks (x ∷ xs) b
  inner x xs a p ih [] h q =
      old_first x xs xs x (itself R o x) ∙ ap (λ y. y ∷ marked xs xs) (stays x p) ∙ ap (λ zs. x ∷ zs) (ih [] tt tt)
  inner x xs a p ih (y ∷ ys) h q =
      let only_h : IsRising R (only y ∷ map only ys) = only_rises (y ∷ ys) h in
      elim (R x y) as (λ r. R x y ≡ r → Marks (x ∷ xs) (y ∷ ys)) [
        | Less ↦ λ e.
            ap (λ u. marked u (x ∷ xs)) (less R join o same x xs y ys h e)
            ∙ old_first x xs (united R join xs (y ∷ ys)) x (itself R o x)
            ∙ ap (λ z. z ∷ marked (united R join xs (y ∷ ys)) xs) (stays x p)
            ∙ ap (λ zs. x ∷ zs) (ih (y ∷ ys) h q)
            ∙ sym (less R join o same x xs (only y) (map only ys) only_h (right_as x y ∙ e))
        | Equal ↦ λ e.
            ap (λ u. marked u (x ∷ xs)) (equal R join o same x xs y ys h e)
            ∙ old_first x xs (united R join xs ys) (join x y) (same x y e x ∙ itself R o x)
            ∙ ap (λ z. z ∷ marked (united R join xs ys) xs) (joined x y e p q.0)
            ∙ ap (λ zs. join x (only y) ∷ zs) (ih ys h.1 q.1)
            ∙ sym (equal R join o same x xs (only y) (map only ys) only_h (right_as x y ∙ e))
        | Greater ↦ λ e.
            ap (λ u. marked u (x ∷ xs)) (greater R join o same x xs y ys a h e)
            ∙ new_first x xs (united R join (x ∷ xs) ys) y e
            ∙ ap (λ zs. only y ∷ zs) (inner x xs a p ih ys h.1 q.1)
            ∙ sym (greater R join o same x xs (only y) (map only ys) a only_h (right_as x y ∙ e))
      ] refl

  -- Marking what is new in a merged list is merging with what was marked.
  pub marked_union : (a b : List A) → IsRising R a → IsRising R b → AllByRecursion P a → AllByRecursion P b
      → marked_new R both only (united R join a b) a ≡ united R join a (map only b)
  marked_union [] b a h p q =
      ap (λ u. marked u []) (only_right R join o same b h) ∙ all_new R both only b
      ∙ sym (only_right R join o same (map only b) (only_rises b h))
  marked_union (x ∷ xs) b a h p q = inner x xs a p.0 (λ c i r. marked_union xs c a.1 i p.1 r) b h q

-- ---- weights

module _ {A : Type 0} (R : A → A → Ordering) (join : A → A → A) (o : IsTotalOrder R)
    (same : (x y : A) → R x y ≡ Equal → (z : A) → R z (join x y) ≡ R z x)
    (both : A → A → ℕ) (only : A → ℕ) (m : A → ℕ) (P : A → Type 0)
    (stays : (x : A) → P x → both x x + m x ≡ m x)
    (joined : (x y : A) → R x y ≡ Equal → P x → P y → both x (join x y) + m x ≡ m (join x y))
    (alone : (x : A) → P x → only x ≡ m x) where
  abbrev weighed : List A → List A → ℕ
  weighed = weighed_new R both only

  abbrev Weighs : List A → List A → Type 0
  Weighs a b = weighed (united R join a b) a + sum_of m a ≡ sum_of m (united R join a b)

  old_weight : (x : A) (xs rest : List A) (y : A) → R x y ≡ Equal
      → weighed (y ∷ rest) (x ∷ xs) ≡ both x y + weighed rest xs
  old_weight x xs rest y e = ap (λ found. weighed_on both only found y (x ∷ xs) (weighed rest)) (at_equal R x y xs e)

  new_weight : (x : A) (xs rest : List A) (y : A) → R x y ≡ Greater
      → weighed (y ∷ rest) (x ∷ xs) ≡ only y + weighed rest (x ∷ xs)
  new_weight x xs rest y e = ap (λ found. weighed_on both only found y (x ∷ xs) (weighed rest)) (at_greater R x y xs e)

  all_weight : (ys : List A) → AllByRecursion P ys → weighed ys [] ≡ sum_of m ys
  all_weight [] q = refl
  all_weight (y ∷ ys) q = omega (arith, alone y q.0, all_weight ys q.1)

  step_old : (b w mx my sx sy : ℕ) → b + mx ≡ my → w + sx ≡ sy → (b + w) + (mx + sx) ≡ my + sy
  step_old b w mx my sx sy h k = omega arith

  step_new : (w n my sx s : ℕ) → n ≡ my → w + sx ≡ s → (n + w) + sx ≡ my + s
  step_new w n my sx s h k = omega arith

  weigh_inner : (x : A) (xs : List A) → IsRising R (x ∷ xs) → P x
      → ((b : List A) → IsRising R b → AllByRecursion P b → Weighs xs b) → (b : List A) → IsRising R b
      → AllByRecursion P b → Weighs (x ∷ xs) b
  weigh_inner x xs a p ih [] h q =
      ap (λ n. n + (m x + sum_of m xs)) (old_weight x xs xs x (itself R o x))
      ∙ step_old _ _ _ _ _ _ (stays x p) (ih [] tt tt)
  weigh_inner x xs a p ih (y ∷ ys) h q =
      elim (R x y) as (λ r. R x y ≡ r → Weighs (x ∷ xs) (y ∷ ys)) [
        | Less ↦ λ e.
            let u = less R join o same x xs y ys h e in
            ap (λ v. weighed v (x ∷ xs) + (m x + sum_of m xs)) u
            ∙ ap (λ n. n + (m x + sum_of m xs)) (old_weight x xs (united R join xs (y ∷ ys)) x (itself R o x))
            ∙ step_old _ _ _ _ _ _ (stays x p) (ih (y ∷ ys) h q)
            ∙ ap (sum_of m) (sym u)
        | Equal ↦ λ e.
            let u = equal R join o same x xs y ys h e in
            ap (λ v. weighed v (x ∷ xs) + (m x + sum_of m xs)) u
            ∙ ap (λ n. n + (m x + sum_of m xs))
            (old_weight x xs (united R join xs ys) (join x y) (same x y e x ∙ itself R o x))
            ∙ step_old _ _ _ _ _ _ (joined x y e p q.0) (ih ys h.1 q.1)
            ∙ ap (sum_of m) (sym u)
        | Greater ↦ λ e.
            let u = greater R join o same x xs y ys a h e in
            ap (λ v. weighed v (x ∷ xs) + (m x + sum_of m xs)) u
            ∙ ap (λ n. n + (m x + sum_of m xs)) (new_weight x xs (united R join (x ∷ xs) ys) y e)
            ∙ step_new _ _ _ _ _ (alone y q.0) (weigh_inner x xs a p ih ys h.1 q.1)
            ∙ ap (sum_of m) (sym u)
      ] refl

  -- What is new in a merged list weighs as much as the list gained.
  pub weighed_union : (a b : List A) → IsRising R a → IsRising R b → AllByRecursion P a → AllByRecursion P b
      → weighed_new R both only (united R join a b) a + sum_of m a ≡ sum_of m (united R join a b)
  weighed_union [] b a h p q =
      let u = only_right R join o same b h in
      let w : weighed (united R join [] b) [] ≡ sum_of m (united R join [] b) =
      ap (λ v. weighed v []) u ∙ all_weight b q ∙ ap (sum_of m) (sym u) in
      omega (arith, w)
  weighed_union (x ∷ xs) b a h p q = weigh_inner x xs a p.0 (λ c i r. weighed_union xs c a.1 i p.1 r) b h q
