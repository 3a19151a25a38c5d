-- Fingerprints: their octets, their order, and how they are spelled.
use Rattle.std.specs.Prelude.{ℕ, Bool, List, Option}
use Rattle.std.specs.Option.{option_map, option_or}
use Rattle.std.specs.declared.cmp.Ordering.{Ordering}
use Rattle.std.specs.Ordering.{is_eq, nat_cmp, ordering_then}
use Rattle.std.specs.Cmp.Lexicographic.{slice_cmp}
use Rattle.hex.specs.Hex.{encode_lower}
use Rattle.wot_types.specs.Digits.{array_of_digits}
use Rattle.wot_types.specs.declared.fpr.Fpr.{Fpr}
use Rattle.wot_types.specs.declared.fpr.Fpr.TheVariants.{V4, V6}

-- the octets of a fingerprint
abbrev pub octets_of : Fpr → List ℕ
octets_of (V4 octets) = octets
octets_of (V6 octets) = octets

-- the version of the key
abbrev pub version_of : Fpr → ℕ
version_of (V4 octets) = 4
version_of (V6 octets) = 6

-- how many octets it has
abbrev pub octets_in : Fpr → ℕ
octets_in (V4 octets) = 20
octets_in (V6 octets) = 32

-- its digits, in lower case
abbrev pub digits_of : Fpr → List ℕ
digits_of fpr = encode_lower (octets_of fpr)

-- the fingerprint that 40 or 64 digits of either case spell
abbrev pub fpr_of_digits : List ℕ → Option Fpr
fpr_of_digits digits = option_or (option_map V4 (array_of_digits 20 digits)) (option_map V6 (array_of_digits 32 digits))

-- Fingerprints are ordered by their octets, a proper prefix first. The version never decides between two fingerprints
-- of keys, which have 20 octets or 32: it is named here since contracts see an array as a list of any length.
abbrev pub fpr_cmp : Fpr → Fpr → Ordering
fpr_cmp a b = ordering_then (slice_cmp nat_cmp (octets_of a) (octets_of b)) (nat_cmp (version_of a) (version_of b))

-- whether two fingerprints are equal
abbrev pub same_fpr : Fpr → Fpr → Bool
same_fpr a b = is_eq (fpr_cmp a b)
