-- Decimal numbers are printed and read back.
use Rattle.std.proofs.Common.{◌≡◌, ℕ, ◌+◌, ◌*◌, ◌-◌, ◌^◌, ◌<◌, ◌≤◌, true, false, ◌&&◌, ◌⊎◌, inl, inr, List, [], ◌∷◌}
use Rattle.std.proofs.Common.{length, get_or, Some, refl, ap, arith}
use Rattle.std.specs.Prelude.{nat_lt, nat_le}
use Rattle.std.specs.Fmt.{decimal}
use Rattle.std.specs.Char.{digit_value, is_ascii_digit}
use Rattle.std.specs.Str.{all_ascii_digits}
use Rattle.std.specs.Str.Parse.{digits_value, digits_value_after}
use Rattle.std.proofs.lemmas.Bool.{and_parts, and_from, and_right, cases_eq, lt-ltb, le-ltb, le-leb, lt-leb, leb-true}
use Rattle.std.proofs.lemmas.Str.Parse.{IsNumeralModel, numerals_by_value, tells_all_ascii_digits}
use Rattle.std.proofs.lemmas.Fmt.{digits_decimal, digits_value-decimal, decimal_nonempty, first_decimal, decimal_digit}
use Rattle.wot_fields.specs.Decimal.{is_decimal, decimal_up_to, positive_up_to}

-- more digits never make a number smaller
pub digits_value_grows : (n : ℕ) (digits : List ℕ) → n ≤ digits_value_after 10 n digits
digits_value_grows n [] = omega arith
digits_value_grows n (digit ∷ digits) = omega (arith, digits_value_grows (n * 10 + digit_value digit) digits)

own : IsNumeralModel (λ digits. all_ascii_digits digits ≡ true) (digits_value 10)
own = numerals_by_value (λ digits. all_ascii_digits digits ≡ true) tells_all_ascii_digits

-- a number is printed as digits
pub digits-decimal : (n : ℕ) → n < 2 ^ 64 → all_ascii_digits (decimal n) ≡ true
digits-decimal n small = digits_decimal own n small

-- whose value is the number
pub value-decimal : (n : ℕ) → n < 2 ^ 64 → digits_value 10 (decimal n) ≡ n
value-decimal n small = digits_value-decimal own n small

-- digits without a leading zero
is_decimal_from : (digits : List ℕ) → all_ascii_digits digits ≡ true → 0 < length digits
    → (length digits ≡ 1) ⊎ (48 < get_or digits 0 0) → is_decimal digits ≡ true
is_decimal_from [] all some first = absurd (omega arith)
is_decimal_from (digit ∷ []) all some first = (and_parts (is_ascii_digit digit) true all).0
is_decimal_from (digit ∷ next ∷ digits) all some (inl one) = absurd (omega arith)
is_decimal_from (digit ∷ next ∷ digits) all some (inr first) =
    and_from (nat_lt 48 digit) (all_ascii_digits (digit ∷ next ∷ digits)) (lt-ltb 48 digit first) all

-- a printed number has no leading zero
pub is_decimal-decimal : (n : ℕ) → n < 2 ^ 64 → is_decimal (decimal n) ≡ true
is_decimal-decimal n small =
    elim (cases_eq n 0) [
      | inl none ↦ is_decimal_from (decimal n) (digits-decimal n small) (decimal_nonempty n small)
          (inl (ap length (decimal_digit n (omega arith))))
      | inr some ↦ is_decimal_from (decimal n) (digits-decimal n small) (decimal_nonempty n small)
          (inr (first_decimal n (omega arith) small))
    ]

-- a printed number is read back
pub decimal_up_to-decimal : (most n : ℕ) → n < 2 ^ 64 → n ≤ most → decimal_up_to most (decimal n) ≡ Some n
unfolding decimal_up_to
decimal_up_to-decimal most n small within =
    rw (is_decimal-decimal n small, value-decimal n small, le-leb n most within) refl

pub positive_up_to-decimal : (most n : ℕ) → n < 2 ^ 64 → 1 ≤ n → n ≤ most → positive_up_to most (decimal n) ≡ Some n
unfolding positive_up_to
positive_up_to-decimal most n small some within =
    rw (is_decimal-decimal n small, value-decimal n small, lt-ltb 0 n some, le-leb n most within) refl

digit_value-digit : (digit : ℕ) → is_ascii_digit digit ≡ true → digit_value digit ≡ digit - 48
digit_value-digit digit h =
    let parts = and_parts (nat_le 48 digit) (nat_le digit 57) h in
    let low : 48 ≤ digit = leb-true 48 digit parts.0 in
    let high : digit < 58 = omega (arith, leb-true digit 57 parts.1) in
    rw (le-ltb digit 48 low, lt-ltb digit 58 high) refl

-- a number that is too large after some digits stays too large
pub too_large : (most value : ℕ) (digits : List ℕ) → 1 ≤ length digits → is_ascii_digit (get_or digits 0 0) ≡ true
    → most < value * 10 + (get_or digits 0 0 - 48)
    → (all_ascii_digits digits && nat_le (digits_value_after 10 value digits) most) ≡ false
too_large most value [] some digit large = absurd (omega arith)
too_large most value (first ∷ digits) some digit large =
    let same = digit_value-digit first digit in
    let grown = digits_value_grows (value * 10 + digit_value first) digits in
    and_right (all_ascii_digits (first ∷ digits)) (nat_le (digits_value_after 10 value (first ∷ digits)) most)
    (lt-leb (digits_value_after 10 value (first ∷ digits)) most (omega (arith, same, grown)))
