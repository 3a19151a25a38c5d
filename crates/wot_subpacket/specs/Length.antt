-- The length of a subpacket (RFC 9580, section 5.2.3.7).
use Rattle.std.specs.Prelude.{ℕ, ◌+◌, ◌-◌, ◌*◌, nat_lt, if◌then◌else◌, List, [], ◌∷◌, length, take, drop, Option, Some}
use Rattle.std.specs.Prelude.{None}
use Rattle.std.specs.Int.{w32, from_be_bytes}

-- two octets, of which the first is given: the length, and what follows it
abbrev pub two_octets_at : ℕ → List ℕ → Option (ℕ × List ℕ)
two_octets_at first [] = None
two_octets_at first (second ∷ rest) = Some ((first - 192) * 256 + second + 192, rest)

-- four octets, most significant first
abbrev pub four_octets_at : List ℕ → Option (ℕ × List ℕ)
four_octets_at octets =
    if nat_lt (length octets) 4 then None else Some (from_be_bytes w32 (take 4 octets), drop 4 octets)

-- the length at the beginning of octets, and what follows it; none if octets of the length are missing
abbrev pub length_at : List ℕ → Option (ℕ × List ℕ)
length_at [] = None
length_at (first ∷ rest) =
    if nat_lt first 192 then Some (first, rest)
    else if nat_lt first 255 then two_octets_at first rest
    else four_octets_at rest
