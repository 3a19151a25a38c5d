-- Lines and the octets that spell them.
use Rattle.std.proofs.Common.{◌≡◌, ◌≢◌, ℕ, Bool, true, false, eqb, List, [], ◌∷◌, ◌++◌, refl}
use Rattle.std.proofs.lemmas.Bool.{eqb-true}
use Rattle.wot_io.specs.Input.{lines_of, HasNoFeed}

not-feed : (x : ℕ) → x ≢ 10 → eqb x 10 ≡ false
not-feed x ne = by_cases (eqb x 10) refl
  where
    by_cases : (b : Bool) → eqb x 10 ≡ b → eqb x 10 ≡ false
    by_cases true e = absurd (ne (eqb-true x 10 e))
    by_cases false e = e

pub lines_of-feed : (line rest : List ℕ) → HasNoFeed line → lines_of (line ++ 10 ∷ rest) ≡ line ∷ lines_of rest
lines_of-feed [] rest h = refl
lines_of-feed (x ∷ line) rest h = rw (not-feed x h.0, lines_of-feed line rest h.1) refl

lines_of-more : (x : ℕ) (octets : List ℕ) → HasNoFeed (x ∷ octets) → lines_of (x ∷ octets) ≡ (x ∷ octets) ∷ []
lines_of-more x [] h = rw (not-feed x h.0) refl
lines_of-more x (y ∷ octets) h = rw (not-feed x h.0, lines_of-more y octets h.1) refl

pub lines_of-last : (octets : List ℕ) → octets ≢ [] → HasNoFeed octets → lines_of octets ≡ octets ∷ []
lines_of-last [] ne h = absurd (ne refl)
lines_of-last (x ∷ octets) ne h = lines_of-more x octets h
