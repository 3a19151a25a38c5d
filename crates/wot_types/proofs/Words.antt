-- Octets compare as the number that they spell, the highest first.
use Rattle.std.proofs.Common.{◌≡◌, ℕ, suc, ◌+◌, ◌*◌, ◌<◌, List, [], ◌∷◌, length, get_or, Ordering}
use Rattle.std.proofs.Common.{refl, sym, ap, subst, ◌∙◌, arith}
use Rattle.std.specs.declared.cmp.Ordering.TheVariants.{Less, Equal, Greater}
use Rattle.std.specs.Ordering.{MatchOrdering, nat_cmp, ordering_then}
use Rattle.std.specs.Int.{w64, from_be_bytes}
use Rattle.std.specs.Cmp.{nat_cmp_is, ranked}
use Rattle.std.specs.Cmp.Lexicographic.{slice_cmp}

abbrev pub AreOctets : List ℕ → Type 0
AreOctets xs = (i : ℕ) → get_or xs i 0 < 256

-- the number that octets spell behind a number
abbrev spelt : ℕ → List ℕ → ℕ
spelt n [] = n
spelt n (x ∷ xs) = spelt (n * 256 + x) xs

-- What is lower in front stays lower.
lower : (n m : ℕ) (xs ys : List ℕ) → length xs ≡ length ys → AreOctets xs → n < m → spelt n xs < spelt m ys
lower n m [] [] e h l = l
lower n m [] (y ∷ ys) e h l = absurd (omega (arith, e))
lower n m (x ∷ xs) [] e h l = absurd (omega (arith, e))
lower n m (x ∷ xs) (y ∷ ys) e h l =
    lower (n * 256 + x) (m * 256 + y) xs ys (omega (arith, e)) (λ i. h (suc i)) (let small = h 0 in omega (arith, l, small))

heads : (n x y : ℕ) (xs ys : List ℕ) (o : Ordering) → length xs ≡ length ys → AreOctets (x ∷ xs) → AreOctets (y ∷ ys)
    → nat_cmp (spelt (n * 256 + x) xs) (spelt (n * 256 + x) ys) ≡ slice_cmp nat_cmp xs ys
    → MatchOrdering o (x < y) (x ≡ y) (y < x)
    → nat_cmp (spelt (n * 256 + x) xs) (spelt (n * 256 + y) ys) ≡ ordering_then o (slice_cmp nat_cmp xs ys)
heads n x y xs ys Less e h k rest l =
    let small = h 0 in
    let below : x < y = l in
    sym (nat_cmp_is (spelt (n * 256 + x) xs) (spelt (n * 256 + y) ys) Less
    (lower (n * 256 + x) (n * 256 + y) xs ys e (λ i. h (suc i)) (omega (arith, below))))
heads n x y xs ys Equal e h k rest l =
    subst (λ z. nat_cmp (spelt (n * 256 + x) xs) (spelt (n * 256 + z) ys) ≡ slice_cmp nat_cmp xs ys) l rest
heads n x y xs ys Greater e h k rest l =
    let above : y < x = l in
    sym (nat_cmp_is (spelt (n * 256 + x) xs) (spelt (n * 256 + y) ys) Greater
    (lower (n * 256 + y) (n * 256 + x) ys xs (sym e) (λ i. k (suc i)) (omega (arith, above))))

compared : (n : ℕ) (xs ys : List ℕ) → length xs ≡ length ys → AreOctets xs → AreOctets ys
    → nat_cmp (spelt n xs) (spelt n ys) ≡ slice_cmp nat_cmp xs ys
compared n [] [] e h k = sym (nat_cmp_is n n Equal refl)
compared n [] (y ∷ ys) e h k = absurd (omega (arith, e))
compared n (x ∷ xs) [] e h k = absurd (omega (arith, e))
compared n (x ∷ xs) (y ∷ ys) e h k =
    let shorter : length xs ≡ length ys = omega (arith, e) in
    heads n x y xs ys (nat_cmp x y) shorter h k
    (compared (n * 256 + x) xs ys shorter (λ i. h (suc i)) (λ i. k (suc i))) (ranked x y (nat_cmp x y) refl)

-- Eight octets spell the number that they are read as.
spelt_as : (xs : List ℕ) → length xs ≡ 8 → from_be_bytes w64 xs ≡ spelt 0 xs
spelt_as [] e = absurd (omega (arith, e))
spelt_as (a ∷ []) e = absurd (omega (arith, e))
spelt_as (a ∷ b ∷ []) e = absurd (omega (arith, e))
spelt_as (a ∷ b ∷ c ∷ []) e = absurd (omega (arith, e))
spelt_as (a ∷ b ∷ c ∷ d ∷ []) e = absurd (omega (arith, e))
spelt_as (a ∷ b ∷ c ∷ d ∷ f ∷ []) e = absurd (omega (arith, e))
spelt_as (a ∷ b ∷ c ∷ d ∷ f ∷ g ∷ []) e = absurd (omega (arith, e))
spelt_as (a ∷ b ∷ c ∷ d ∷ f ∷ g ∷ h ∷ []) e = absurd (omega (arith, e))
spelt_as (a ∷ b ∷ c ∷ d ∷ f ∷ g ∷ h ∷ i ∷ []) e = omega arith
spelt_as (a ∷ b ∷ c ∷ d ∷ f ∷ g ∷ h ∷ i ∷ j ∷ xs) e = absurd (omega (arith, e))

pub words_compare : (xs ys : List ℕ) → length xs ≡ 8 → length ys ≡ 8 → AreOctets xs → AreOctets ys
    → nat_cmp (from_be_bytes w64 xs) (from_be_bytes w64 ys) ≡ slice_cmp nat_cmp xs ys
words_compare xs ys e d h k =
    ap (λ n. nat_cmp n (from_be_bytes w64 ys)) (spelt_as xs e) ∙ ap (nat_cmp (spelt 0 xs)) (spelt_as ys d)
    ∙ compared 0 xs ys (e ∙ sym d) h k
