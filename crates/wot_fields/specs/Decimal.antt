-- Decimal numbers.
use Rattle.std.specs.Prelude.{ℕ, ◌&&◌, Bool, false, nat_lt, nat_le, if◌then◌else◌, List, [], ◌∷◌, Option, Some, None}
use Rattle.std.specs.Char.{is_ascii_digit}
use Rattle.std.specs.Str.{all_ascii_digits}
use Rattle.std.specs.Str.Parse.{digits_value, digits_value_after}

-- a digit, or digits whose first isn't `0`
abbrev pub is_decimal : List ℕ → Bool
is_decimal [] = false
is_decimal (digit ∷ []) = is_ascii_digit digit
is_decimal (first ∷ second ∷ digits) = nat_lt 48 first && all_ascii_digits (first ∷ second ∷ digits)

-- the number that a decimal spells, of at most `most`
unfoldable pub decimal_up_to : ℕ → List ℕ → Option ℕ
decimal_up_to most text =
    if is_decimal text && nat_le (digits_value 10 text) most then Some (digits_value 10 text) else None

-- the number, of at most `most`, that digits spell after those of `value`
abbrev pub digits_up_to : ℕ → ℕ → List ℕ → Option ℕ
digits_up_to most value digits =
    if all_ascii_digits digits && nat_le (digits_value_after 10 value digits) most
    then Some (digits_value_after 10 value digits) else None

-- the number from 1 to `most` that a decimal spells
unfoldable pub positive_up_to : ℕ → List ℕ → Option ℕ
positive_up_to most text =
    if is_decimal text && nat_lt 0 (digits_value 10 text) && nat_le (digits_value 10 text) most
    then Some (digits_value 10 text) else None
