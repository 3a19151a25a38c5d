-- Hexadecimal digits of a fixed number of octets.
use Rattle.std.specs.Prelude.{ℕ, List, Option}
use Rattle.std.specs.Result.{result_ok}
use Rattle.hex.specs.Hex.{decode_sized}

-- The octets that exactly this many pairs of digits, of either case, spell. None for every other text.
abbrev pub array_of_digits : ℕ → List ℕ → Option (List ℕ)
array_of_digits count digits = result_ok (decode_sized digits count)
