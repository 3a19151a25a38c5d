-- User IDs in a line: printable octets stand for themselves, `\\` is a backslash, `\xHH` any octet.
use Rattle.std.specs.Prelude.{ℕ, ◌==◌, ◌&&◌, nat_le, if◌then◌else◌, List, [], ◌∷◌, ◌++◌, Option, Some, None}
use Rattle.std.specs.Option.{option_map}
use Rattle.std.specs.List.{flat_map}
use Rattle.hex.specs.Hex.{encode_lower}
use Rattle.wot_types.specs.Digits.{array_of_digits}
use Rattle.wot_fields.specs.Fields.{◌>>=◌}
use Rattle.wot_fields.specs.declared.uid.Place.{Place}
use Rattle.wot_fields.specs.declared.uid.Place.TheVariants.{Outside, Backslash, High, Low}

-- the octets that are complete after one more octet, and the state of the reading
abbrev pub unescape_step : Place → ℕ → Option (List ℕ × Place)
unescape_step Outside octet = if octet == 92 then Some ([], Backslash) else Some (octet ∷ [], Outside)
unescape_step Backslash octet =
    if octet == 92 then Some (92 ∷ [], Outside) else if octet == 120 then Some ([], High) else None
unescape_step High octet = Some ([], Low octet)
unescape_step (Low high) octet = option_map (λ octets. (octets, Outside)) (array_of_digits 1 (high ∷ octet ∷ []))

-- a text ends outside of an escape
abbrev pub ended : Place → Option (List ℕ)
ended Outside = Some []
ended Backslash = None
ended High = None
ended (Low high) = None

-- the octets that a text spells, read from this state on
abbrev pub unescaped_from : List ℕ → Place → Option (List ℕ)
unescaped_from [] place = ended place
unescaped_from (octet ∷ octets) place =
    unescape_step place octet >>= (λ next. option_map (λ others. next.0 ++ others) (unescaped_from octets next.1))

-- the user ID that a text spells
unfoldable pub unescaped : List ℕ → Option (List ℕ)
unescaped text = unescaped_from text Outside

-- how an octet is printed
abbrev pub escape : ℕ → List ℕ
escape octet =
    if octet == 92 then 92 ∷ 92 ∷ []
    else if nat_le 32 octet && nat_le octet 126 then octet ∷ []
    else 92 ∷ 120 ∷ encode_lower (octet ∷ [])

-- how a user ID is printed
unfoldable pub escaped : List ℕ → List ℕ
escaped uid = flat_map escape uid
