-- Lists of subpackets (RFC 9580, section 5.2.3.7).
use Rattle.std.specs.Prelude.{ℕ, zero, suc, nat_lt, ◌==◌, if◌then◌else◌, List, [], ◌∷◌, length, take, drop, Option}
use Rattle.std.specs.Prelude.{Some, None, Result, Ok, Err}
use Rattle.std.specs.Result.{result_unwrap_or}
use Rattle.wot_subpacket.specs.declared.fault.AreaFault.{AreaFault}
use Rattle.wot_subpacket.specs.declared.fault.AreaFault.TheVariants.{CutLength, Zero, CutBody}
use Rattle.wot_subpacket.specs.Subpacket.{Subpacket, subpacket_of}
use Rattle.wot_subpacket.specs.Length.{length_at}

-- a subpacket of this many octets, and what follows it
abbrev pub cut_at : ℕ → List ℕ → Result (Subpacket × List ℕ) AreaFault
cut_at size octets =
    if size == 0 then Err Zero
    else if nat_lt (length octets) size then Err CutBody
    else Ok (subpacket_of (take size octets), drop size octets)

abbrev pub behind_length : Option (ℕ × List ℕ) → Result (Subpacket × List ℕ) AreaFault
behind_length None = Err CutLength
behind_length (Some found) = cut_at found.0 found.1

-- the subpacket at the beginning of octets, and what follows it; or its fault
abbrev pub first_of : List ℕ → Result (Subpacket × List ℕ) AreaFault
first_of octets = behind_length (length_at octets)

-- a subpacket before others
abbrev pub before : Subpacket → Result (List Subpacket) AreaFault → Result (List Subpacket) AreaFault
before first (Ok others) = Ok (first ∷ others)
before first (Err fault) = Err fault

-- the first one, followed by those that are read after it
abbrev pub then_read : Result (Subpacket × List ℕ) AreaFault → (List ℕ → Result (List Subpacket) AreaFault)
    → Result (List Subpacket) AreaFault
then_read (Err fault) read = Err fault
then_read (Ok found) read = before found.0 (read found.1)

-- the subpackets that at most this many octets spell
abbrev pub spelled : ℕ → List ℕ → Result (List Subpacket) AreaFault
spelled most [] = Ok []
spelled zero (o ∷ octets) = Err CutBody
spelled (suc most) (o ∷ octets) = then_read (first_of (o ∷ octets)) (spelled most)

-- The list of subpackets that octets spell, or their first fault from the beginning.
unfoldable pub subpackets_of : List ℕ → Result (List Subpacket) AreaFault
subpackets_of octets = spelled (length octets) octets

-- the list, if there is one
abbrev pub list_of : List ℕ → List Subpacket
list_of octets = result_unwrap_or (subpackets_of octets) []
