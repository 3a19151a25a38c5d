-- Slots rise with the numbers: a number that is below another one has no later place.
use Rattle.std.proofs.Common.{◌≡◌, ◌<◌, ◌≤◌, ◌+◌, ◌*◌, ◌/◌, ◌%◌, ◌^◌, ◌⊎◌, inl, inr, ℕ, true, false, List, [], ◌∷◌, length}
use Rattle.std.proofs.Common.{Ordering, ap, refl, arith}
use Rattle.std.specs.Prelude.{slice_index}
use Rattle.std.specs.Cmp.Lexicographic.{slice_cmp}
use Rattle.std.specs.Int.{w32, from_be_bytes}
use Rattle.std.specs.Ordering.{MatchOrdering, is_eq, is_lt, nat_cmp, ordering_then}
use Rattle.std.specs.declared.cmp.Ordering.TheVariants.{Less, Equal, Greater}
use Rattle.std.proofs.lemmas.Cmp.{ranked}
use Rattle.std.proofs.lemmas.Nat.{div-add-mod', le-div, mul-le}
use Rattle.wot_types.specs.declared.number.SigNumber.{SigNumber}
use Rattle.wot_types.specs.SigNumber.{number_cmp}
use Rattle.wot_slots.specs.Above.{IsNumber}
use Rattle.wot_slots.specs.Near.{is_number, place_in, word_in}
use Rattle.wot_slots.proofs.Numbers.{numbers_total}

-- ---- the order of numbers

pub less_is : (o : Ordering) → is_lt o ≡ true → o ≡ Less
less_is Less h = refl
less_is Equal h = absurd cc
less_is Greater h = absurd cc

pub less_on : (a b c : SigNumber) → is_lt (number_cmp a b) ≡ true → is_lt (number_cmp b c) ≡ true →
    is_lt (number_cmp a c) ≡ true
less_on a b c h k =
    ap is_lt (numbers_total.trans a b c (less_is (number_cmp a b) h) (less_is (number_cmp b c) k))

-- What is below a number is another one.
pub less_apart : (q a : SigNumber) → is_lt (number_cmp q a) ≡ true → is_number q a ≡ false
less_apart q a h = ap is_eq (less_is (number_cmp q a) h)

-- ---- the first four octets

abbrev word : ℕ → ℕ → ℕ → ℕ → ℕ
word a b c d = ((a * 256 + b) * 256 + c) * 256 + d

spelt : (a b c d : ℕ) → from_be_bytes w32 (a ∷ b ∷ c ∷ d ∷ []) ≡ word a b c d
spelt a b c d = omega arith

first : (x y : ℕ) (rest : Ordering) (o : Ordering) → MatchOrdering o (x < y) (x ≡ y) (y < x) →
    ordering_then o rest ≡ Less → (x < y) ⊎ ((x ≡ y) × (rest ≡ Less))
first x y rest Less lt h = inl lt
first x y rest Equal same h = inr (same, h)
first x y rest Greater gt h = absurd cc

one_by_one : (x y : ℕ) (rest : Ordering) → ordering_then (nat_cmp x y) rest ≡ Less →
    (x < y) ⊎ ((x ≡ y) × (rest ≡ Less))
one_by_one x y rest h = first x y rest (nat_cmp x y) (ranked x y (nat_cmp x y) refl) h

module _ (a b c d e f g h : ℕ) (rest : Ordering) (bs : b < 256) (cs : c < 256) (ds : d < 256) where
  by_fourth : a ≡ e → b ≡ f → c ≡ g → (d < h) ⊎ ((d ≡ h) × (rest ≡ Less)) → word a b c d ≤ word e f g h
  by_fourth x y z (inl lt) = omega (arith, x, y, z, lt)
  by_fourth x y z (inr more) = let same = more.0 in omega (arith, x, y, z, same)

  by_third : a ≡ e → b ≡ f → (c < g) ⊎ ((c ≡ g) × (ordering_then (nat_cmp d h) rest ≡ Less)) →
      word a b c d ≤ word e f g h
  by_third x y (inl lt) = omega (arith, x, y, lt, ds)
  by_third x y (inr more) = by_fourth x y more.0 (one_by_one d h rest more.1)

  by_second : a ≡ e →
      (b < f) ⊎ ((b ≡ f) × (ordering_then (nat_cmp c g) (ordering_then (nat_cmp d h) rest) ≡ Less)) →
      word a b c d ≤ word e f g h
  by_second x (inl lt) = omega (arith, x, lt, cs, ds)
  by_second x (inr more) = by_third x more.0 (one_by_one c g (ordering_then (nat_cmp d h) rest) more.1)

  by_first :
      (a < e) ⊎ ((a ≡ e)
      × (ordering_then (nat_cmp b f) (ordering_then (nat_cmp c g) (ordering_then (nat_cmp d h) rest)) ≡ Less)) →
      word a b c d ≤ word e f g h
  by_first (inl lt) = omega (arith, lt, bs, cs, ds)
  by_first (inr more) =
      by_second more.0 (one_by_one b f (ordering_then (nat_cmp c g) (ordering_then (nat_cmp d h) rest)) more.1)

abbrev first_four : List ℕ → ℕ
first_four xs =
    from_be_bytes w32 (slice_index xs 0 ∷ slice_index xs 1 ∷ slice_index xs 2 ∷ slice_index xs 3 ∷ [])

fours_rise : (a b c d : ℕ) (xs ys : List ℕ) → b < 256 → c < 256 → d < 256 → length ys ≡ 32 →
    slice_cmp nat_cmp (a ∷ b ∷ c ∷ d ∷ xs) ys ≡ Less → first_four (a ∷ b ∷ c ∷ d ∷ xs) ≤ first_four ys
fours_rise a b c d xs [] bs cs ds k less = absurd (omega (arith, k))
fours_rise a b c d xs (e ∷ []) bs cs ds k less = absurd (omega (arith, k))
fours_rise a b c d xs (e ∷ f ∷ []) bs cs ds k less = absurd (omega (arith, k))
fours_rise a b c d xs (e ∷ f ∷ g ∷ []) bs cs ds k less = absurd (omega (arith, k))
fours_rise a b c d xs (e ∷ f ∷ g ∷ h ∷ ys) bs cs ds k less =
    let rise = by_first a b c d e f g h (slice_cmp nat_cmp xs ys) bs cs ds (one_by_one a e _ less) in
    omega (arith, rise, spelt a b c d, spelt e f g h)

octets_rise : (xs ys : List ℕ) → length xs ≡ 32 → length ys ≡ 32 → ((i : ℕ) → slice_index xs i < 256) →
    slice_cmp nat_cmp xs ys ≡ Less → first_four xs ≤ first_four ys
octets_rise [] ys e k small less = absurd (omega (arith, e))
octets_rise (a ∷ []) ys e k small less = absurd (omega (arith, e))
octets_rise (a ∷ b ∷ []) ys e k small less = absurd (omega (arith, e))
octets_rise (a ∷ b ∷ c ∷ []) ys e k small less = absurd (omega (arith, e))
octets_rise (a ∷ b ∷ c ∷ d ∷ xs) ys e k small less = fours_rise a b c d xs ys (small 1) (small 2) (small 3) k less

-- ---- places

part_of : (p r m n : ℕ) → p + r ≡ m → m ≤ n → p ≤ n
part_of p r m n e le = omega (arith, e, le)

parts_rise : (m n k : ℕ) → 0 < k → m ≤ n → m / k ≤ n / k
parts_rise m n k some le = le-div (m / k) n k some (part_of (m / k * k) (m % k) m n (div-add-mod' m k) le)

pub places_rise : (count : ℕ) (a b : SigNumber) → IsNumber a → IsNumber b → is_lt (number_cmp a b) ≡ true →
    place_in count a ≤ place_in count b
places_rise count a b x y less =
    parts_rise (word_in a * count) (word_in b * count) (2 ^ 32) (omega arith)
    (mul-le (word_in a) count (word_in b) count
    (octets_rise a.0 b.0 x.octets y.octets x.small (less_is (number_cmp a b) less)) (omega arith))
