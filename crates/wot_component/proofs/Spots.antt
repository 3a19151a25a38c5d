-- Where an item belongs in a list that rises.
use Rattle.std.proofs.Common.{◌≡◌, ℕ, zero, suc, ◌<◌, ◌≤◌, List, [], ◌∷◌, length, refl, sym, ap, ◌∙◌, subst, arith}
use Rattle.std.proofs.Common.{le_refl}
use Rattle.std.specs.Prelude.{slice_set, Result, Ok, Err}
use Rattle.std.specs.List.{AllByRecursion, insert, slice_index_or}
use Rattle.std.specs.declared.cmp.Ordering.{Ordering}
use Rattle.std.specs.declared.cmp.Ordering.TheVariants.{Less, Equal, Greater}
use Rattle.std.specs.Ordering.{ordering_index, ordering_reverse}
use Rattle.std.specs.Cmp.{IsTotalOrder}
use Rattle.std.specs.List.Sorted.{IsNonDecreasingBy, IsBinarySearchResult, IsSearchInRange}
use Rattle.wot_component.specs.Growing.{TellsPlace}
use Rattle.wot_component.specs.Ranked.{put, placed, IsRising}

lower : (n m : ℕ) → suc n < suc m → n < m
lower n m h = omega arith

lower_le : (n m : ℕ) → suc n ≤ suc m → n ≤ m
lower_le n m h = omega arith

upper : (n m : ℕ) → n < m → suc n < suc m
upper n m h = omega arith

upper_le : (n m : ℕ) → n ≤ m → suc n ≤ suc m
upper_le n m h = omega arith

none : (n : ℕ) → n < 0 → ⊥
none n h = omega arith

none_le : (n : ℕ) → suc n ≤ 0 → ⊥
none_le n h = omega arith

some : (n : ℕ) → 0 < suc n
some n = omega arith

zero_le : (n : ℕ) → 0 ≤ n
zero_le n = omega arith

index_zero : (r s : Ordering) → r ≡ Less → ordering_index r ≤ ordering_index s
index_zero r s e = subst (λ (t : Ordering). ordering_index t ≤ ordering_index s) (sym e) (zero_le (ordering_index s))

two : 2 ≤ 2
two = omega arith

one_two : 1 ≤ 2
one_two = omega arith

at_most : (r : Ordering) → ordering_index r ≤ 2
at_most Less = zero_le 2
at_most Equal = one_two
at_most Greater = two

at_all : {A : Type 0} (P : A → Type 0) (xs : List A) (at : ℕ) (d : A) → AllByRecursion P xs → at < length xs
    → P (slice_index_or xs at d)
at_all P [] at d h l = absurd (none at l)
at_all P (x ∷ xs) zero d h l = h.0
at_all P (x ∷ xs) (suc at) d h l = at_all P xs at d h.1 (lower at (length xs) l)

module _ {A : Type 0} (R : A → A → Ordering) (o : IsTotalOrder R) where
  turned : (x y : A) (r : Ordering) → R x y ≡ r → R y x ≡ ordering_reverse r
  turned x y r e = o.antisymm y x ∙ ap ordering_reverse e

  -- what is below something tied is below
  below_tied : (a b x : A) → R a b ≡ Less → R b x ≡ Equal → R x a ≡ Greater
  below_tied a b x h e = sym (o.congr b x a e) ∙ turned a b Less h

  lessened : (a b x : A) → R a b ≡ Less → ordering_index (R a x) ≤ ordering_index (R b x)
  lessened a b x h =
      elim (R b x) as (λ r. R b x ≡ r → ordering_index (R a x) ≤ ordering_index r) [
        | Less ↦ λ e. index_zero (R a x) Less (o.trans a b x h e)
        | Equal ↦ λ e. index_zero (R a x) Equal (turned x a Greater (below_tied a b x h e))
        | Greater ↦ λ e. at_most (R a x)
      ] refl

  ascending : (x : A) (xs : List A) → IsRising R xs → IsNonDecreasingBy (λ y. ordering_index (R y x)) xs
  ascending x [] h i j d le l = absurd (none j l)
  ascending x (y ∷ ys) h zero zero d le l = le_refl _
  ascending x (y ∷ ys) h zero (suc j) d le l =
      lessened y (slice_index_or ys j d) x (at_all (λ z. R y z ≡ Less) ys j d h.0 (lower j (length ys) l))
  ascending x (y ∷ ys) h (suc i) zero d le l = absurd (none_le i le)
  ascending x (y ∷ ys) h (suc i) (suc j) d le l = ascending x ys h.1 i j d (lower_le i j le) (lower j (length ys) l)

  module _ (join : A → A → A) where
    -- what is put where its rank is
    put_found : (x : A) (xs : List A) (at : ℕ) (d : A) → IsRising R xs → at < length xs
        → R (slice_index_or xs at d) x ≡ Equal → put R join x xs ≡ slice_set xs at (join (slice_index_or xs at d) x)
    put_found x [] at d rises l e = absurd (none at l)
    put_found x (y ∷ ys) zero d rises l e = ap (λ r. placed r join x y ys (put R join x ys)) (turned y x Equal e)
    put_found x (y ∷ ys) (suc at) d rises l e =
        let there : A = slice_index_or ys at d in
        let first : R y there ≡ Less = at_all (λ z. R y z ≡ Less) ys at d rises.0 (lower at (length ys) l) in
        ap (λ r. placed r join x y ys (put R join x ys)) (below_tied y there x first e)
        ∙ ap (λ (zs : List A). y ∷ zs) (put_found x ys at d rises.1 (lower at (length ys) l) e)

    -- what is put between the lower ones and the higher ones
    put_missing : (x : A) (xs : List A) (at : ℕ) → at ≤ length xs
        → ((k : ℕ) (d : A) → k < at → R (slice_index_or xs k d) x ≡ Less)
        → ((k : ℕ) (d : A) → at ≤ k → k < length xs → R (slice_index_or xs k d) x ≡ Greater)
        → put R join x xs ≡ insert xs at x
    put_missing x [] zero l below above = refl
    put_missing x [] (suc at) l below above = absurd (none_le at l)
    put_missing x (y ∷ ys) zero l below above =
        ap (λ r. placed r join x y ys (put R join x ys)) (turned y x Greater (above 0 x (zero_le 0) (some (length ys))))
    put_missing x (y ∷ ys) (suc at) l below above =
        ap (λ r. placed r join x y ys (put R join x ys)) (turned y x Less (below 0 x (some at)))
        ∙ ap (λ (zs : List A). y ∷ zs)
        (put_missing x ys at (lower_le at (length ys) l) (λ k d h. below (suc k) d (upper k at h))
        (λ k d h m. above (suc k) d (upper_le at k h) (upper k (length ys) m)))

    pub spot : (x like : A) → ((y : A) → R y like ≡ R y x) → (xs : List A) (r : Result ℕ ℕ) → IsRising R xs
        → IsSearchInRange r (length xs) → IsBinarySearchResult (λ y. R y x) xs r → TellsPlace R join like xs r
    spot x like same xs (Ok at) rises range found =
        (range, λ d. put_found like xs at d rises range (same (slice_index_or xs at d) ∙ found d))
    spot x like same xs (Err at) rises range found =
        let point = found (ascending x xs rises) in (
          range,
          put_missing like xs at range (λ k d h. same (slice_index_or xs k d) ∙ point.0 k d (zero_le k) h)
              (λ k d h m. same (slice_index_or xs k d) ∙ point.1 k d h m),
        )
