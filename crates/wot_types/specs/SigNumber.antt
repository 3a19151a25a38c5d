-- Signature numbers: their order, and how they are spelled.
use Rattle.std.specs.Prelude.{ℕ, List, Option}
use Rattle.std.specs.Option.{option_map}
use Rattle.std.specs.declared.cmp.Ordering.{Ordering}
use Rattle.std.specs.Ordering.{nat_cmp}
use Rattle.std.specs.Cmp.Lexicographic.{slice_cmp}
use Rattle.hex.specs.Hex.{encode_lower}
use Rattle.wot_types.specs.Digits.{array_of_digits}
use Rattle.wot_types.specs.declared.number.SigNumber.{SigNumber}

-- the digits of a number, in lower case
abbrev pub number_digits : SigNumber → List ℕ
number_digits number = encode_lower number.0

-- the number that 64 digits of either case spell
abbrev pub number_of_digits : List ℕ → Option SigNumber
number_of_digits digits = option_map (λ octets. record { 0 = octets }) (array_of_digits 32 digits)

-- Numbers are ordered by their octets.
abbrev pub number_cmp : SigNumber → SigNumber → Ordering
number_cmp a b = slice_cmp nat_cmp a.0 b.0
