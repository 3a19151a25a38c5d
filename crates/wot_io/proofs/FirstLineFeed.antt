-- The first line feed, as the search for it returns it.
use Rattle.std.proofs.Common.{◌≡◌, ℕ, zero, suc, ◌+◌, ◌<◌, ◌≤◌, List, ◌∷◌, ◌++◌, length, take, drop, Option, Some, None}
use Rattle.std.proofs.Common.{eq-eqb, arith, add-one}
use Rattle.std.specs.Prelude.{MatchOption}
use Rattle.std.proofs.lemmas.Bool.{eqb-true}
use Rattle.memchr.specs.Find.{IsFirstByte, Nowhere, Passes, is_byte}
use Rattle.wot_io.specs.Input.{HasNoFeed}
use Rattle.wot_io.proofs.Feeds.{HasNoFeed-more, HasNoFeed-all, at_feed}

below : (xs : List ℕ) (n : ℕ) → n ≤ length xs → Nowhere (Passes (is_byte 10) xs) 0 n → HasNoFeed (take n xs)
below xs zero le h = tt
below xs (suc n) le h =
    let more : HasNoFeed (take (n + 1) xs) =
    HasNoFeed-more xs n (omega arith) (λ e. h n (omega arith) (omega arith) (eq-eqb _ _ e))
    (below xs n (omega arith) (λ k lo hi. h k lo (omega arith))) in
    rw (add-one n) at more

pub first_none : (xs : List ℕ) (r : Option ℕ) → IsFirstByte (is_byte 10) xs r
    → MatchOption r (HasNoFeed xs) (λ i. HasNoFeed (take i xs))
first_none xs None h = HasNoFeed-all xs (length xs) (omega arith) (below xs (length xs) (omega arith) h)
first_none xs (Some i) h = below xs i (omega arith) h.0.before

pub first_within : (xs : List ℕ) (r : Option ℕ) → IsFirstByte (is_byte 10) xs r
    → MatchOption r (HasNoFeed xs) (λ i. i < length xs)
first_within xs None h = first_none xs None h
first_within xs (Some i) h = h.0.high

pub first_found : (xs : List ℕ) (r : Option ℕ) → IsFirstByte (is_byte 10) xs r
    → MatchOption r (HasNoFeed xs) (λ i. xs ≡ take i xs ++ 10 ∷ drop (i + 1) xs)
first_found xs None h = first_none xs None h
first_found xs (Some i) h = at_feed xs i h.0.high (eqb-true _ _ h.1)
