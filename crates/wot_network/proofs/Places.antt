-- Sorted places, walked over together with what is at them.
use Rattle.std.proofs.Common.{◌≡◌, ◌<◌, ◌+◌, ℕ, Bool, true, false, not, ◌&&◌, ◌||◌, ◌==◌, if◌then◌else◌, List, [], ◌∷◌}
use Rattle.std.proofs.Common.{refl, sym, ap, ◌∙◌, arith}
use Rattle.std.specs.List.{list_any}
use Rattle.std.proofs.lemmas.Bool.Decides.{nat_tests}
use Rattle.wot_component.specs.Certificate.{Component}
use Rattle.wot_live.specs.Rows.{places_where}
use Rattle.wot_network.specs.Places.{is_first, behind_first, is_unrevoked}
use Rattle.wot_network.specs.Records.{is_user_id}

other : (m n : ℕ) → n < m → (m == n) ≡ false
other m n h = grind (arith, nat_tests)

same : (n : ℕ) → (n == n) ≡ true
same n = grind (arith, nat_tests)

further : (n m : ℕ) → n < m → n < m + 1
further n m h = omega arith

next : (n : ℕ) → n < n + 1
next n = omega arith

module _ {A : Type 0} (test : A → Bool) where
  -- earlier places are not among later ones
  not_first : (n m : ℕ) (xs : List A) → n < m → is_first n (places_where test m xs) ≡ false
  not_first n m [] h = refl
  not_first n m (x ∷ xs) h =
      elim (test x) as (λ b. is_first n (if b then m ∷ places_where test (m + 1) xs else places_where test
      (m + 1) xs) ≡ false) [
        | true ↦ other m n h
        | false ↦ not_first n (m + 1) xs (further n m h)
      ]

  stays : (n : ℕ) (places : List ℕ) → is_first n places ≡ false → behind_first n places ≡ places
  stays n [] h = refl
  stays n (p ∷ places) h = ap (λ b. if b then places else p ∷ places) h

  pub first_is : (n : ℕ) (x : A) (xs : List A) → is_first n (places_where test n (x ∷ xs)) ≡ test x
  first_is n x xs = by (test x) refl
    where
      by : (b : Bool) → test x ≡ b → is_first n (if b then n ∷ places_where test (n + 1) xs else places_where test
          (n + 1) xs) ≡ b
      by true e = same n
      by false e = not_first n (n + 1) xs (next n)

  pub behind_is : (n : ℕ) (x : A) (xs : List A) → behind_first n (places_where test n (x ∷ xs)) ≡ places_where test
      (n + 1) xs
  behind_is n x xs = by (test x) refl
    where
      by : (b : Bool) → test x ≡ b → behind_first n (if b then n ∷ places_where test (n + 1) xs else places_where test
          (n + 1) xs) ≡ places_where test (n + 1) xs
      by true e = ap (λ b. if b then places_where test (n + 1) xs else n ∷ places_where test (n + 1) xs) (same n)
      by false e = stays n (places_where test (n + 1) xs) (not_first n (n + 1) xs (next n))

-- What is found among the rest is found among all, if these are the revoked places of the rest.
abbrev pub FoundSo : List ℕ → List Component → List ℕ → ℕ → List ℕ → List Component → Type 0
FoundSo u user_ids revoked place left rest =
    (test : Component → Bool) → revoked ≡ places_where test 0 user_ids
    → (left ≡ places_where test place rest) × (list_any (is_unrevoked u test) user_ids ≡ list_any (is_unrevoked u test)
    rest)

skipped : (a b c : Bool) → not b && a ≡ false → (a && not b) || c ≡ c
skipped true true c h = refl
skipped true false c h = cc
skipped false b c h = refl

module _ (u : List ℕ) (user_ids : List Component) (revoked : List ℕ) (place : ℕ) (left : List ℕ)
    (rest others : List Component) (uid : Component) (step : rest ≡ uid ∷ others)
    (so : FoundSo u user_ids revoked place left rest) where
  places_are : (test : Component → Bool) → revoked ≡ places_where test 0 user_ids →
      left ≡ places_where test place (uid ∷ others)
  places_are test e = (so test e).0 ∙ ap (places_where test place) step

  first_revoked : (test : Component → Bool) → revoked ≡ places_where test 0 user_ids → is_first place left ≡ test uid
  first_revoked test e = ap (is_first place) (places_are test e) ∙ first_is test place uid others

  any_is : (test : Component → Bool) → revoked ≡ places_where test 0 user_ids →
      list_any (is_unrevoked u test) user_ids ≡ ((is_user_id u uid && not (is_first place left)) || list_any
      (is_unrevoked u test) others)
  any_is test e =
      (so test e).1 ∙ ap (list_any (is_unrevoked u test)) step
      ∙ ap (λ b. (is_user_id u uid && not b) || list_any (is_unrevoked u test) others) (sym (first_revoked test e))

  pub found_on : (left' : List ℕ) → left' ≡ behind_first place left →
      not (is_first place left) && is_user_id u uid ≡ false → FoundSo u user_ids revoked (place + 1) left' others
  found_on left' behind none test e = (
    behind ∙ ap (behind_first place) (places_are test e) ∙ behind_is test place uid others,
    any_is test e ∙ skipped (is_user_id u uid) (is_first place left) _ none,
  )

pub first_false : (a b : Bool) → a ≡ false → a && b ≡ false
first_false true b h = cc
first_false false b h = refl

pub second_false : (a b : Bool) → b ≡ false → a && b ≡ false
second_false true b h = h
second_false false b h = refl
