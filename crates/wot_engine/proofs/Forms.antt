-- The words after the program's name, and the numbers in them.
use Rattle.std.proofs.Common.{◌≡◌, ◌≢◌, ℕ, ◌≤◌, ◌<◌, Bool, true, false, ◌&&◌, List, [], ◌∷◌, length, get_or, Some, None}
use Rattle.std.proofs.Common.{Result, Ok, Err, refl, sym, ap, ◌∙◌, arith}
use Rattle.std.specs.Prelude.{nat_le, nat_lt, if◌then◌else◌}
use Rattle.std.specs.Char.{is_ascii_digit}
use Rattle.std.specs.Result.{result_ok}
use Rattle.std.specs.Str.{all_ascii_digits}
use Rattle.std.specs.Str.Parse.{ParsesUnsigned, digits_value}
use Rattle.std.proofs.lemmas.Bool.{and_parts, and_from, lt-ltb, le-leb, leb-true, ltb-true}
use Rattle.std.proofs.lemmas.Str.Parse.{IsNumeralModel, numerals_by_value, parse_plain, tells_all_ascii_digits}
use Rattle.wot_fields.specs.Decimal.{decimal_up_to, is_decimal, positive_up_to}
use Rattle.wot_engine.specs.Forms.{IsGenerated, IsRun}

-- ---- decimals

abbrev most : ℕ
most = 18446744073709551615

own : IsNumeralModel (λ digits. all_ascii_digits digits ≡ true) (digits_value 10)
own = numerals_by_value (λ digits. all_ascii_digits digits ≡ true) tells_all_ascii_digits

-- digits whose first isn't `0`, or a single digit
decimal_from : (digits : List ℕ) → all_ascii_digits digits ≡ true → 0 < length digits →
    (2 ≤ length digits → get_or digits 0 0 ≢ 48)
    → is_decimal digits ≡ true
decimal_from [] all some first = absurd (omega arith)
decimal_from (digit ∷ []) all some first = (and_parts (is_ascii_digit digit) true all).0
decimal_from (digit ∷ next ∷ digits) all some first =
    let digits_are = and_parts (is_ascii_digit digit) (all_ascii_digits (next ∷ digits)) all in
    let low = and_parts (nat_le 48 digit) (nat_le digit 57) digits_are.0 in
    let more : 48 < digit = omega (arith, leb-true 48 digit low.0, first (omega arith)) in
    and_from (nat_lt 48 digit) (all_ascii_digits (digit ∷ next ∷ digits)) (lt-ltb 48 digit more) all

decimal_digits : (digits : List ℕ) → is_decimal digits ≡ true → (all_ascii_digits digits ≡ true) × (0 < length digits)
decimal_digits [] e = absurd cc
decimal_digits (digit ∷ []) e = (and_from (is_ascii_digit digit) true e refl, omega arith)
decimal_digits (digit ∷ next ∷ digits) e =
    ((and_parts (nat_lt 48 digit) (all_ascii_digits (digit ∷ next ∷ digits)) e).1, omega arith)

none_if : (b : Bool) (n : ℕ) → (b ≡ true → ⊥) → (if b then Some n else None) ≡ None
none_if true n h = absurd (h refl)
none_if false n h = refl

some_if : (b : Bool) (n : ℕ) → b ≡ true → (if b then Some n else None) ≡ Some n
some_if b n e = rw e refl

if_some : (b : Bool) (n m : ℕ) → (if b then Some n else None) ≡ Some m → (b ≡ true) × (n ≡ m)
if_some true n m e = (refl, cc)
if_some false n m e = absurd cc

-- what `parse` returns for digits without a sign or a leading zero
module _ {E : Type 0} where
  pub parsed : (digits : List ℕ) (r : Result ℕ E) → ParsesUnsigned 64 10 digits r → get_or digits 0 0 ≢ 43
      → (2 ≤ length digits → get_or digits 0 0 ≢ 48) → result_ok r ≡ decimal_up_to most digits
  unfolding decimal_up_to
  parsed digits (Ok number) p plus first =
      let is = parse_plain own {E = E} 64 digits (Ok number) p plus in
      let small : digits_value 10 digits ≤ most = omega (arith, is.0.2) in
      let both = and_from (is_decimal digits) (nat_le (digits_value 10 digits) most)
      (decimal_from digits is.0.0 is.0.1 first) (le-leb (digits_value 10 digits) most small) in
      ap (λ n. Some n) is.1 ∙ sym (some_if (is_decimal digits && nat_le (digits_value 10 digits) most)
      (digits_value 10 digits) both)
  parsed digits (Err fault) p plus first =
      let is = parse_plain own {E = E} 64 digits (Err fault) p plus in
      sym (none_if (is_decimal digits && nat_le (digits_value 10 digits) most) (digits_value 10 digits) (λ e.
      let both = and_parts (is_decimal digits) (nat_le (digits_value 10 digits) most) e in
      let spelled = decimal_digits digits both.0 in
      is (spelled.0, spelled.1, omega (arith, leb-true (digits_value 10 digits) most both.1))))

pub leading_zero : (digits : List ℕ) → 2 ≤ length digits → get_or digits 0 0 ≡ 48 → decimal_up_to most digits ≡ None
unfolding decimal_up_to
leading_zero [] two zero = absurd (omega arith)
leading_zero (digit ∷ []) two zero = absurd (omega arith)
leading_zero (digit ∷ next ∷ digits) two zero =
    none_if (is_decimal (digit ∷ next ∷ digits) && nat_le (digits_value 10 (digit ∷ next ∷ digits)) most)
    (digits_value 10 (digit ∷ next ∷ digits)) (λ e.
    let both = and_parts (is_decimal (digit ∷ next ∷ digits)) (nat_le (digits_value 10 (digit ∷ next ∷ digits)) most)
    e in
    let first = and_parts (nat_lt 48 digit) (all_ascii_digits (digit ∷ next ∷ digits)) both.0 in
    absurd (omega (arith, ltb-true 48 digit first.0, zero)))

pub leading_plus : (digits : List ℕ) → 1 ≤ length digits → get_or digits 0 0 ≡ 43 → decimal_up_to most digits ≡ None
unfolding decimal_up_to
leading_plus [] one plus = absurd (omega arith)
leading_plus (digit ∷ digits) one plus =
    none_if (is_decimal (digit ∷ digits) && nat_le (digits_value 10 (digit ∷ digits)) most)
    (digits_value 10 (digit ∷ digits)) (λ e.
    let both = and_parts (is_decimal (digit ∷ digits)) (nat_le (digits_value 10 (digit ∷ digits)) most) e in
    let all = (decimal_digits (digit ∷ digits) both.0).0 in
    let first = and_parts (is_ascii_digit digit) (all_ascii_digits digits) all in
    let low = and_parts (nat_le 48 digit) (nat_le digit 57) first.0 in
    absurd (omega (arith, leb-true 48 digit low.0, plus)))

-- ---- the number of keys

abbrev count_test : List ℕ → Bool
count_test digits = is_decimal digits && nat_lt 0 (digits_value 10 digits) && nat_le (digits_value 10 digits) 2000

count_parts : (digits : List ℕ) → count_test digits ≡ true →
    (is_decimal digits ≡ true) × (1 ≤ digits_value 10 digits) × (digits_value 10 digits ≤ 2000)
count_parts digits e =
    let both = and_parts (is_decimal digits && nat_lt 0 (digits_value 10 digits)) (nat_le (digits_value 10 digits) 2000)
    e in
    let some = and_parts (is_decimal digits) (nat_lt 0 (digits_value 10 digits)) both.0 in
    (some.0, omega (arith, ltb-true 0 (digits_value 10 digits) some.1), leb-true (digits_value 10 digits) 2000 both.1)

pub count_none : (digits : List ℕ) → decimal_up_to most digits ≡ None → positive_up_to 2000 digits ≡ None
unfolding decimal_up_to positive_up_to
count_none digits none =
    none_if (count_test digits) (digits_value 10 digits) (λ e.
    let parts = count_parts digits e in
    let both = and_from (is_decimal digits) (nat_le (digits_value 10 digits) most) parts.0
    (le-leb (digits_value 10 digits) most (omega (arith, parts.2))) in
    let some = some_if (is_decimal digits && nat_le (digits_value 10 digits) most) (digits_value 10 digits) both in
    let never : None ≡ Some (digits_value 10 digits) = sym none ∙ some in
    absurd cc)

pub count_other : (digits : List ℕ) (number : ℕ) → decimal_up_to most digits ≡ Some number →
    (1 ≤ number → number ≤ 2000 → ⊥)
    → positive_up_to 2000 digits ≡ None
unfolding decimal_up_to positive_up_to
count_other digits number is other =
    let got = if_some (is_decimal digits && nat_le (digits_value 10 digits) most) (digits_value 10 digits) number is in
    none_if (count_test digits) (digits_value 10 digits) (λ e.
    let parts = count_parts digits e in
    other (omega (arith, parts.1, got.1)) (omega (arith, parts.2, got.1)))

pub count_some : (digits : List ℕ) (number : ℕ) → decimal_up_to most digits ≡ Some number → 1 ≤ number → number ≤ 2000
    → positive_up_to 2000 digits ≡ Some number
unfolding decimal_up_to positive_up_to
count_some digits number is some few =
    let got = if_some (is_decimal digits && nat_le (digits_value 10 digits) most) (digits_value 10 digits) number is in
    let spelled = (and_parts (is_decimal digits) (nat_le (digits_value 10 digits) most) got.0).0 in
    let positive = and_from (is_decimal digits) (nat_lt 0 (digits_value 10 digits)) spelled
    (lt-ltb 0 (digits_value 10 digits) (omega (arith, got.1, some))) in
    some_if (count_test digits) (digits_value 10 digits)
    (and_from (is_decimal digits && nat_lt 0 (digits_value 10 digits)) (nat_le (digits_value 10 digits) 2000) positive
    (le-leb (digits_value 10 digits) 2000 (omega (arith, got.1, few))))
    ∙ ap (λ n. Some n) got.1

-- a parsed count is within the bounds of a script
pub count_bounds : (digits : List ℕ) (count : ℕ) → positive_up_to 2000 digits ≡ Some count →
    (1 ≤ count) × (count ≤ 2000)
unfolding positive_up_to
count_bounds digits count is =
    let got = if_some (count_test digits) (digits_value 10 digits) count is in
    let parts = count_parts digits got.0 in
    (omega (arith, parts.1, got.1), omega (arith, parts.2, got.1))

-- ---- forms

-- no words are of both forms
pub one_form : (words : List (List ℕ)) (start count : ℕ) → IsRun words → IsGenerated words start count → ⊥
one_form [] start count run generated = run
one_form (word ∷ []) start count run generated = generated
one_form (word ∷ first ∷ []) start count run generated = generated
one_form (word ∷ first ∷ second ∷ []) start count run generated = run
one_form (word ∷ first ∷ second ∷ third ∷ words) start count run generated = run

-- the words of a generated run determine its script
pub one_script : (words : List (List ℕ)) (start count other more : ℕ) → IsGenerated words start count →
    IsGenerated words other more
    → (other ≡ start) × (more ≡ count)
one_script [] start count other more p q = absurd p
one_script (word ∷ []) start count other more p q = absurd p
one_script (word ∷ first ∷ []) start count other more p q = absurd p
one_script (word ∷ first ∷ second ∷ []) start count other more p q =
    (some_is other start (sym q.1 ∙ p.1), some_is more count (sym q.2 ∙ p.2))
  where
    some_is : (x y : ℕ) → Some x ≡ Some y → x ≡ y
    some_is x y e = cc
one_script (word ∷ first ∷ second ∷ third ∷ words) start count other more p q = absurd p

pub script_bounds : (words : List (List ℕ)) (start count : ℕ) → IsGenerated words start count →
    (1 ≤ count) × (count ≤ 2000)
script_bounds [] start count p = absurd p
script_bounds (word ∷ []) start count p = absurd p
script_bounds (word ∷ first ∷ []) start count p = absurd p
script_bounds (word ∷ first ∷ second ∷ []) start count p = count_bounds second count p.2
script_bounds (word ∷ first ∷ second ∷ third ∷ words) start count p = absurd p
