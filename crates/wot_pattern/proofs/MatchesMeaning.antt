-- The test for a match agrees with the meaning.
use Rattle.std.specs.Prelude.{◌≡◌, ℕ, zero, suc, ◌+◌, ◌<◌, ◌≤◌, ◌⊎◌, Bool, false, ◌&&◌, ◌||◌, ◌==◌, List, length}
use Rattle.std.specs.Prelude.{Option, Some, None, slice_get}
use Rattle.std.specs.List.{list_any, range_with_len}
use Rattle.std.specs.Option.{option_map_or}
use Rattle.std.proofs.Common.{refl, subst, inl, inr, arith}
use Rattle.std.proofs.lemmas.Bool.{cases_lt, eqb-true, eq-eqb}
use Rattle.wot_pattern.specs.Reading.{Atom, exactly, any, start, end, range, Reading, nothing, single, sequence, either}
use Rattle.wot_pattern.specs.Reading.{star, plus, optional}
use Rattle.wot_pattern.specs.Meaning.{Repeats, Takes, OneTaken, AtomHolds, Holds, Matches}
use Rattle.wot_pattern.specs.MeaningTest.{at_some_position, at_most_repeats, some_repeats, takes, one_taken, atom_holds, holds}
use Rattle.wot_pattern.specs.MeaningTest.{matches_in}
use Rattle.wot_pattern.proofs.Flows.{Holds-le, Repeats-le, takes_tells}
use Rattle.wot_pattern.proofs.Tests.{IsTestOf, tells_and, tells_as, tells_never, tells_or}

equal_tells : (a b : ℕ) → IsTestOf (a == b) (a ≡ b)
equal_tells a b = record { says = λ e. eqb-true a b e; said = λ e. eq-eqb a b e }

-- ---- positions

-- the fact holds of a number from a on, below a + n
abbrev Among : (ℕ → Type 0) → ℕ → ℕ → Type 0
Among P a n = (k : ℕ) × (a ≤ k) × (k < a + n) × P k

among_tells : (test : ℕ → Bool) (P : ℕ → Type 0) (a n : ℕ)
    → ((k : ℕ) → a ≤ k → k < a + n → IsTestOf (test k) (P k))
    → IsTestOf (list_any test (range_with_len a n)) (Among P a n)
among_tells test P a zero h =
    tells_never false (Among P a zero) refl (λ (k, l, m, p). omega (arith, l, m))
among_tells test P a (suc n) h =
    tells_as (test a || list_any test (range_with_len (a + 1) n)) (P a ⊎ Among P (a + 1) n) (Among P a (suc n))
    (tells_or (test a) (list_any test (range_with_len (a + 1) n)) (P a) (Among P (a + 1) n)
    (h a (omega arith) (omega arith))
    (among_tells test P (a + 1) n (λ k l m. h k (omega (arith, l)) (omega (arith, m)))))
    (elim [
      | inl p ↦ (a, omega arith, omega arith, p)
      | inr (k, l, m, p) ↦ (k, omega (arith, l), omega (arith, m), p)
    ])
    (λ (k, l, m, p). elim (cases_lt a k) [
      | inl below ↦ inr (k, omega (arith, below), omega (arith, m), p)
      | inr above ↦ let e : k ≡ a = omega (arith, l, above) in inl (subst P e p)
    ])

module _ (text : List ℕ) where
  -- the fact holds at some position of the text
  abbrev AtSome : (ℕ → Type 0) → Type 0
  AtSome P = (k : ℕ) × (k ≤ length text) × P k

  some_tells : (test : ℕ → Bool) (P : ℕ → Type 0) → ((k : ℕ) → k ≤ length text → IsTestOf (test k) (P k))
      → IsTestOf (at_some_position text test) (AtSome P)
  some_tells test P h =
      tells_as (at_some_position text test) (Among P 0 (length text + 1)) (AtSome P)
      (among_tells test P 0 (length text + 1) (λ k l m. h k (omega (arith, m))))
      (λ (k, l, m, p). (k, omega (arith, m), p))
      (λ (k, l, p). (k, omega arith, omega (arith, l), p))

  -- ---- repetitions

  module _ (repeat : ℕ → ℕ → Bool) (T : ℕ → ℕ → Type 0) (le : (i j : ℕ) → T i j → i ≤ j)
      (tells : (i j : ℕ) → i ≤ length text → j ≤ length text → IsTestOf (repeat i j) (T i j)) where
    -- at most n repetitions
    abbrev AtMost : ℕ → ℕ → ℕ → Type 0
    AtMost n i j = (m : ℕ) × (m ≤ n) × Repeats T m i j

    abbrev Next : ℕ → ℕ → ℕ → ℕ → Type 0
    Next n i j k = T i k × AtMost n k j

    at_most_tells : (n i j : ℕ) → i ≤ length text → j ≤ length text
        → IsTestOf (at_most_repeats text repeat n i j) (AtMost n i j)
    at_most_tells zero i j a b =
        tells_as (i == j) (i ≡ j) (AtMost zero i j) (equal_tells i j) (λ e. (0, omega arith, e))
        (λ h. none h.0 h.1 h.2)
      where
        none : (m : ℕ) → m ≤ 0 → Repeats T m i j → i ≡ j
        none zero l e = e
        none (suc m) l t = absurd (omega (arith, l))
    at_most_tells (suc n) i j a b =
        tells_as ((i == j) || at_some_position text (λ mid. repeat i mid && at_most_repeats text repeat n mid j))
        ((i ≡ j) ⊎ AtSome (Next n i j)) (AtMost (suc n) i j)
        (tells_or (i == j) (at_some_position text (λ mid. repeat i mid && at_most_repeats text repeat n mid j)) (i ≡ j)
        (AtSome (Next n i j)) (equal_tells i j)
        (some_tells (λ mid. repeat i mid && at_most_repeats text repeat n mid j) (Next n i j)
        (λ k l. tells_and (repeat i k) (at_most_repeats text repeat n k j) (T i k) (AtMost n k j) (tells i k a l)
        (at_most_tells n k j l b))))
        (elim [
          | inl e ↦ (0, omega arith, e)
          | inr (k, l, (t, (m, few, ts))) ↦ (suc m, omega (arith, few), (k, t, ts))
        ])
        (λ h. parts h.0 h.1 h.2)
      where
        parts : (m : ℕ) → m ≤ suc n → Repeats T m i j → (i ≡ j) ⊎ AtSome (Next n i j)
        parts zero l e = inl e
        parts (suc m) l (k, t, ts) =
            let before : k ≤ j = Repeats-le T le m k j ts in
            inr (k, omega (arith, before, b), (t, (m, omega (arith, l), ts)))

    -- repetitions that stand still can be left out
    moving : (n i j : ℕ) → Repeats T n i j → (m : ℕ) × (m + i ≤ j) × Repeats T m i j
    moving zero i j e = (0, omega (arith, e), e)
    moving (suc n) i j (k, t, ts) =
        let (m, few, us) = moving n k j ts in
        let step : i ≤ k = le i k t in
        elim (cases_lt i k) [
          | inl on ↦ (suc m, omega (arith, few, on), (k, t, us))
          | inr still ↦
              let e : k ≡ i = omega (arith, step, still) in
              (m, omega (arith, few, step), subst (λ x. Repeats T m x j) e us)
        ]

    turns_tell : (i j : ℕ) → i ≤ length text → j ≤ length text
        → IsTestOf (some_repeats text repeat i j) ((n : ℕ) × Repeats T n i j)
    turns_tell i j a b =
        tells_as (some_repeats text repeat i j) (AtMost (length text) i j) ((n : ℕ) × Repeats T n i j)
        (at_most_tells (length text) i j a b) (λ (m, few, ts). (m, ts))
        (λ (n, ts). let (m, few, us) = moving n i j ts in (m, omega (arith, few, b), us))

  -- ---- atoms

  taken_tells : (a : Atom) (o : Option ℕ)
      → IsTestOf (option_map_or (takes a) o false) ((c : ℕ) × (o ≡ Some c) × Takes a c)
  taken_tells a None = tells_never false ((c : ℕ) × (None ≡ Some c) × Takes a c) refl (λ (c, e, t). absurd cc)
  taken_tells a (Some d) =
      tells_as (takes a d) (Takes a d) ((c : ℕ) × (Some d ≡ Some c) × Takes a c) (takes_tells a d)
      (λ t. (d, refl, t)) (λ (c, e, t). let same : c ≡ d = cc e in subst (Takes a) same t)

  one_tells : (a : Atom) (i j : ℕ) → IsTestOf (one_taken a text i j) (OneTaken a text i j)
  one_tells a i j =
      tells_and (j == i + 1) (option_map_or (takes a) (slice_get text i) false) (j ≡ i + 1)
      ((c : ℕ) × (slice_get text i ≡ Some c) × Takes a c) (equal_tells j (i + 1)) (taken_tells a (slice_get text i))

  atom_tells : (a : Atom) (i j : ℕ) → IsTestOf (atom_holds text a i j) (AtomHolds text a i j)
  atom_tells start i j = tells_and (i == 0) (j == 0) (i ≡ 0) (j ≡ 0) (equal_tells i 0) (equal_tells j 0)
  atom_tells end i j =
      tells_and (i == length text) (j == length text) (i ≡ length text) (j ≡ length text) (equal_tells i (length text))
      (equal_tells j (length text))
  atom_tells (exactly d) i j = one_tells (exactly d) i j
  atom_tells any i j = one_tells any i j
  atom_tells (range n xs) i j = one_tells (range n xs) i j

  -- ---- the meaning

  holds_tells : (r : Reading) (i j : ℕ) → i ≤ length text → j ≤ length text
      → IsTestOf (holds text r i j) (Holds text r i j)
  holds_tells nothing i j a b = equal_tells i j
  holds_tells (single x) i j a b = atom_tells x i j
  holds_tells (sequence p q) i j a b =
      tells_as (at_some_position text (λ mid. holds text p i mid && holds text q mid j))
      (AtSome (λ k. Holds text p i k × Holds text q k j)) (Holds text (sequence p q) i j)
      (some_tells (λ mid. holds text p i mid && holds text q mid j) (λ k. Holds text p i k × Holds text q k j)
      (λ k l. tells_and (holds text p i k) (holds text q k j) (Holds text p i k) (Holds text q k j)
      (holds_tells p i k a l) (holds_tells q k j l b)))
      (λ (k, l, (g, h)). (k, g, h))
      (λ (k, g, h). let before : k ≤ j = Holds-le text q k j h in (k, omega (arith, before, b), (g, h)))
  holds_tells (either p q) i j a b =
      tells_or (holds text p i j) (holds text q i j) (Holds text p i j) (Holds text q i j) (holds_tells p i j a b)
      (holds_tells q i j a b)
  holds_tells (star p) i j a b =
      turns_tell (holds text p) (Holds text p) (λ k l h. Holds-le text p k l h) (λ k l c d. holds_tells p k l c d) i j
      a b
  holds_tells (plus p) i j a b =
      tells_as (at_some_position text (λ mid. holds text p i mid && some_repeats text (holds text p) mid j))
      (AtSome (λ k. Holds text p i k × ((n : ℕ) × Repeats (Holds text p) n k j))) (Holds text (plus p) i j)
      (some_tells (λ mid. holds text p i mid && some_repeats text (holds text p) mid j)
      (λ k. Holds text p i k × ((n : ℕ) × Repeats (Holds text p) n k j))
      (λ k l. tells_and (holds text p i k) (some_repeats text (holds text p) k j) (Holds text p i k)
      ((n : ℕ) × Repeats (Holds text p) n k j) (holds_tells p i k a l)
      (turns_tell (holds text p) (Holds text p) (λ x y h. Holds-le text p x y h) (λ x y c d. holds_tells p x y c d) k j
      l b)))
      (λ (k, l, (h, (n, ts))). (n, (k, h, ts)))
      (λ (n, (k, h, ts)).
      let before : k ≤ j = Repeats-le (Holds text p) (λ x y g. Holds-le text p x y g) n k j ts in
      (k, omega (arith, before, b), (h, (n, ts))))
  holds_tells (optional p) i j a b =
      tells_or (i == j) (holds text p i j) (i ≡ j) (Holds text p i j) (equal_tells i j) (holds_tells p i j a b)

pub matching_tells : (text : List ℕ) (r : Reading) → IsTestOf (matches_in r text) (Matches text r)
unfolding matches_in
matching_tells text r =
    tells_as (at_some_position text (λ from. at_some_position text (λ to. holds text r from to)))
    (AtSome text (λ i. AtSome text (λ j. Holds text r i j))) (Matches text r)
    (some_tells text (λ from. at_some_position text (λ to. holds text r from to))
    (λ i. AtSome text (λ j. Holds text r i j))
    (λ i a. some_tells text (λ to. holds text r i to) (λ j. Holds text r i j)
    (λ j b. holds_tells text r i j a b)))
    (λ (i, a, (j, b, h)). (i, j, a, b, h))
    (λ (i, j, a, b, h). (i, a, (j, b, h)))
