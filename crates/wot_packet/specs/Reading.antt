-- The plain reader: what is at the beginning of the octets, packet by packet.
use Rattle.std.specs.Prelude.{ℕ, zero, suc, ◌+◌, ◌-◌, ◌*◌, ◌/◌, ◌%◌, nat_lt, ◌==◌, if◌then◌else◌, List, [], ◌∷◌, length}
use Rattle.std.specs.Prelude.{take, drop, Result, Ok, Err}
use Rattle.std.specs.Int.{w16, w32, from_be_bytes}
use Rattle.wot_packet.specs.Spelling.{Spelled}
use Rattle.wot_packet.specs.declared.packet.PacketFault.{PacketFault}
use Rattle.wot_packet.specs.declared.packet.Why.{Why}
use Rattle.wot_packet.specs.declared.packet.Why.TheVariants.{NotAPacket, CutLength, CutBody, Partial, Indeterminate}

-- a length of one octet, and what follows it
abbrev pub one_octet : List ℕ → Result (ℕ × List ℕ) Why
one_octet (a ∷ rest) = Ok (a, rest)
one_octet _ = Err CutLength

-- a length of two octets, and what follows it
abbrev pub two_octets : List ℕ → Result (ℕ × List ℕ) Why
two_octets (a ∷ b ∷ rest) = Ok (from_be_bytes w16 (a ∷ b ∷ []), rest)
two_octets _ = Err CutLength

-- a length of four octets, and what follows it
abbrev pub four_octets : List ℕ → Result (ℕ × List ℕ) Why
four_octets (a ∷ b ∷ c ∷ d ∷ rest) = Ok (from_be_bytes w32 (a ∷ b ∷ c ∷ d ∷ []), rest)
four_octets _ = Err CutLength

-- the second octet of a length whose first is 192 to 223
abbrev pub second_octet : ℕ → List ℕ → Result (ℕ × List ℕ) Why
second_octet a (b ∷ rest) = Ok ((a - 192) * 256 + b + 192, rest)
second_octet a _ = Err CutLength

-- a length in the OpenPGP format
abbrev pub openpgp_length : List ℕ → Result (ℕ × List ℕ) Why
openpgp_length [] = Err CutLength
openpgp_length (a ∷ rest) =
    if nat_lt a 192 then Ok (a, rest)
    else if nat_lt a 224 then second_octet a rest
    else if nat_lt a 255 then Err Partial
    else four_octets rest

-- a length in the legacy format
abbrev pub legacy_length : ℕ → List ℕ → Result (ℕ × List ℕ) Why
legacy_length type octets =
    if type == 0 then one_octet octets
    else if type == 1 then two_octets octets
    else if type == 2 then four_octets octets
    else Err Indeterminate

-- a header: the type, the length of the body, and what follows
pub record Headed : Type 0 where
  pub kind : ℕ
  pub size : ℕ
  pub rest : List ℕ

abbrev pub with_kind : ℕ → Result (ℕ × List ℕ) Why → Result Headed Why
with_kind kind (Ok found) = Ok (record { kind = kind; size = found.0; rest = found.1 })
with_kind kind (Err why) = Err why

abbrev pub headed_of : List ℕ → Result Headed Why
headed_of [] = Err CutLength
headed_of (tag ∷ octets) =
    if nat_lt tag 128 then Err NotAPacket
    else if nat_lt tag 192 then with_kind ((tag - 128) / 4) (legacy_length ((tag - 128) % 4) octets)
    else with_kind (tag - 192) (openpgp_length octets)

-- a packet: its type, its body, and what follows
pub record First : Type 0 where
  pub kind : ℕ
  pub body : List ℕ
  pub rest : List ℕ

abbrev pub body_of : Result Headed Why → Result First Why
body_of (Err why) = Err why
body_of (Ok headed) =
    if nat_lt (length headed.rest) headed.size then Err CutBody
    else Ok (record { kind = headed.kind; body = take headed.size headed.rest; rest = drop headed.size headed.rest })

abbrev pub first_of : List ℕ → Result First Why
first_of octets = body_of (headed_of octets)

-- the packet before the list that follows it, or the fault that follows it
abbrev pub before : Spelled → Result (List Spelled) PacketFault → Result (List Spelled) PacketFault
before packet (Ok packets) = Ok (packet ∷ packets)
before packet (Err fault) = Err fault

-- the first packet of `count` octets from offset `at` on, and then what `others` makes of the octets after it
abbrev pub read_on : ℕ → ℕ → Result First Why → (ℕ → List ℕ → Result (List Spelled) PacketFault)
    → Result (List Spelled) PacketFault
read_on at count (Err why) others = Err (record { at = at; why = why })
read_on at count (Ok first) others =
    before (record { kind = first.kind; body = first.body; at = at })
    (others (at + (count - length first.rest)) first.rest)

-- the packets of these octets from this offset on, at most `most`
abbrev pub packets_from : ℕ → ℕ → List ℕ → Result (List Spelled) PacketFault
packets_from most at [] = Ok []
packets_from zero at (octet ∷ octets) = Ok []
packets_from (suc most) at (octet ∷ octets) =
    read_on at (length (octet ∷ octets)) (first_of (octet ∷ octets)) (packets_from most)

-- The packets of a text, or its first fault. A text has no more packets than octets.
abbrev pub packets_of : List ℕ → Result (List Spelled) PacketFault
packets_of text = packets_from (length text) 0 text
