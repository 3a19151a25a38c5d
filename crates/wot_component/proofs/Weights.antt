-- What merged and marked certificates weigh.
use Rattle.std.proofs.Common.{◌≡◌, ℕ, ◌+◌, ◌≤◌, List, [], ◌∷◌, Some, None, refl, arith}
use Rattle.std.specs.declared.cmp.Ordering.{Ordering}
use Rattle.std.specs.declared.cmp.Ordering.TheVariants.{Less, Equal, Greater}
use Rattle.wot_policy.specs.declared.rows.PolicyRows.{PolicyRows}
use Rattle.wot_component.specs.Ranked.{put, placed, united}
use Rattle.wot_component.specs.Counts.{sum_of, part_weight, weight_of}
use Rattle.wot_component.specs.Certificate.{Signature, Component, Certificate, sig_cmp, part_cmp, kept, unite, unite_part}
use Rattle.wot_component.specs.Judged.{judged_sig}
use Rattle.wot_component.specs.New.{met, marked_on, marked_new, stays, judged_sigs, judged_part, judged_parts, judged_beside}

-- ---- merging

module _ {A : Type 0} (R : A → A → Ordering) (join : A → A → A) (m : A → ℕ) (least : (x y : A) → m x ≤ m (join x y))
  where
    placed_more : (r : Ordering) (x y : A) (ys rest : List A) → sum_of m ys ≤ sum_of m rest
        → m y + sum_of m ys ≤ sum_of m (placed r join x y ys rest)
    placed_more Less x y ys rest h = omega arith
    placed_more Equal x y ys rest h = omega (arith, least y x)
    placed_more Greater x y ys rest h = omega arith

    pub put_more : (x : A) (ys : List A) → sum_of m ys ≤ sum_of m (put R join x ys)
    put_more x [] = omega arith
    put_more x (y ∷ ys) = placed_more (R x y) x y ys (put R join x ys) (put_more x ys)

    chain : (a b c : ℕ) → a ≤ b → b ≤ c → a ≤ c
    chain a b c h k = omega arith

    reach : (a : ℕ) → a ≤ a
    reach a = omega arith

    -- A merged list weighs no less than the first one.
    pub united_more : (xs ys : List A) → sum_of m xs ≤ sum_of m (united R join xs ys)
    united_more xs [] = reach (sum_of m xs)
    united_more xs (y ∷ ys) = chain _ _ _ (united_more xs ys) (put_more y (united R join xs ys))

module _ {A : Type 0} (R : A → A → Ordering) (join : A → A → A) (m : A → ℕ)
    (most : (x y : A) → m (join x y) ≤ m x + m y) where
  placed_less : (r : Ordering) (x y : A) (ys rest : List A) → sum_of m rest ≤ m x + sum_of m ys
      → sum_of m (placed r join x y ys rest) ≤ m x + (m y + sum_of m ys)
  placed_less Less x y ys rest h = omega arith
  placed_less Equal x y ys rest h = omega (arith, most y x)
  placed_less Greater x y ys rest h = omega arith

  put_less : (x : A) (ys : List A) → sum_of m (put R join x ys) ≤ m x + sum_of m ys
  put_less x [] = omega arith
  put_less x (y ∷ ys) = placed_less (R x y) x y ys (put R join x ys) (put_less x ys)

  next : (u y x s : ℕ) → (p : ℕ) → p ≤ y + u → u ≤ x + s → p ≤ x + (y + s)
  next u y x s p h k = omega arith

  reach_zero : (a : ℕ) → a ≤ a + 0
  reach_zero a = omega arith

  -- A merged list weighs no more than both.
  pub united_less : (xs ys : List A) → sum_of m (united R join xs ys) ≤ sum_of m xs + sum_of m ys
  united_less xs [] = reach_zero (sum_of m xs)
  united_less xs (y ∷ ys) = next _ _ _ _ _ (put_less y (united R join xs ys)) (united_less xs ys)

module _ (sig : Signature → ℕ) (own : Component → ℕ) (own_same : (x y : Component) → own (unite_part x y) ≡ own x) where
  at_least : (n : ℕ) → n ≤ n
  at_least n = omega arith

  with_more : (a b s t : ℕ) → b ≡ a → s ≤ t → a + s ≤ b + t
  with_more a b s t e h = omega arith

  pub part_more : (x y : Component) → part_weight sig own x ≤ part_weight sig own (unite_part x y)
  part_more x y =
      with_more _ _ _ _ (own_same x y) (united_more sig_cmp kept sig (λ a b. at_least (sig a)) x.sigs y.sigs)

  sum_more : (a b c d w x y z : ℕ) → a ≤ w → b ≤ x → c ≤ y → d ≤ z → a + b + c + d ≤ w + x + y + z
  sum_more a b c d w x y z e f g h = omega arith

  pub unite_more : (a b : Certificate) → weight_of sig own a ≤ weight_of sig own (unite a b)
  unite_more a b =
      let parts = united_more part_cmp unite_part (part_weight sig own) part_more in
      sum_more _ _ _ _ _ _ _ _ (united_more sig_cmp kept sig (λ x y. at_least (sig x)) a.direct b.direct)
      (parts a.user_ids b.user_ids) (parts a.attributes b.attributes) (parts a.subkeys b.subkeys)

  first_of : (m n : ℕ) → m ≤ m + n
  first_of m n = omega arith

  with_less : (a b c s t u : ℕ) → c ≡ a → u ≤ s + t → c + u ≤ (a + s) + (b + t)
  with_less a b c s t u e h = omega arith

  part_less : (x y : Component) → part_weight sig own (unite_part x y) ≤ part_weight sig own x + part_weight sig own y
  part_less x y =
      with_less _ _ _ _ _ _ (own_same x y)
      (united_less sig_cmp kept sig (λ a b. first_of (sig a) (sig b)) x.sigs y.sigs)

  sum_less : (a b c d p q r s w x y z : ℕ) → w ≤ a + p → x ≤ b + q → y ≤ c + r → z ≤ d + s
      → w + x + y + z ≤ (a + b + c + d) + (p + q + r + s)
  sum_less a b c d p q r s w x y z e f g h = omega arith

  pub unite_less : (a b : Certificate) → weight_of sig own (unite a b) ≤ weight_of sig own a + weight_of sig own b
  unite_less a b =
      let parts = united_less part_cmp unite_part (part_weight sig own) part_less in
      sum_less _ _ _ _ _ _ _ _ _ _ _ _
      (united_less sig_cmp kept sig (λ x y. first_of (sig x) (sig y)) a.direct b.direct) (parts a.user_ids b.user_ids)
      (parts a.attributes b.attributes) (parts a.subkeys b.subkeys)

-- ---- marks

module _ {A : Type 0} (R : A → A → Ordering) (both : A → A → A) (only : A → A) (m : A → ℕ)
    (both_as : (x y : A) → m (both x y) ≡ m y) (only_as : (y : A) → m (only y) ≡ m y) where
  pub marked_sum : (ys old : List A) → sum_of m (marked_new R both only ys old) ≡ sum_of m ys
  marked_sum [] old = refl
  marked_sum (y ∷ ys) old =
      elim (met R y old) as
      (λ found. sum_of m (marked_on both only found y old (marked_new R both only ys)) ≡ m y + sum_of m ys) [
        | Some f ↦ (λ i. both_as f.0 y i + marked_sum ys f.1 i)
        | None ↦ (λ i. only_as y i + marked_sum ys old i)
      ]

module _ (sig : Signature → ℕ) (own : Component → ℕ) (rows : PolicyRows)
    (sig_as : (s : Signature) → sig (judged_sig rows s) ≡ sig s)
    (own_as : (old : List Signature) (p : Component) → own (judged_part rows old p) ≡ own p) where
  pub sigs_weight : (ys old : List Signature) → sum_of sig (judged_sigs rows ys old) ≡ sum_of sig ys
  sigs_weight = marked_sum sig_cmp stays (judged_sig rows) sig (λ x y. refl) sig_as

  part_as : (old : List Signature) (p : Component)
      → part_weight sig own (judged_part rows old p) ≡ part_weight sig own p
  part_as old p = λ i. own_as old p i + sigs_weight p.sigs old i

  pub parts_weight : (ys old : List Component)
      → sum_of (part_weight sig own) (judged_parts rows ys old) ≡ sum_of (part_weight sig own) ys
  parts_weight =
      marked_sum part_cmp (λ (old : Component) (new : Component). judged_part rows old.sigs new) (judged_part rows [])
      (part_weight sig own) (λ x y. part_as x.sigs y) (part_as [])

  pub beside_weight : (old c : Certificate) → weight_of sig own (judged_beside rows old c) ≡ weight_of sig own c
  beside_weight old c =
      λ i. sigs_weight c.direct old.direct i + parts_weight c.user_ids old.user_ids i + parts_weight c.attributes
      old.attributes i + parts_weight c.subkeys old.subkeys i
