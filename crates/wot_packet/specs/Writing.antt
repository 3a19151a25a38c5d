-- The shortest spelling of a packet in the OpenPGP format (RFC 9580, section 4.2.1).
use Rattle.std.specs.Prelude.{◌≡◌, ◌⊎◌, ℕ, ◌+◌, ◌-◌, ◌/◌, ◌%◌, ◌^◌, ◌<◌, nat_lt, if◌then◌else◌, List, [], ◌∷◌, ◌++◌}
use Rattle.std.specs.Prelude.{length}
use Rattle.std.specs.List.{All}
use Rattle.std.specs.Int.{w32, to_be_bytes}
use Rattle.wot_packet.specs.Spelling.{Spelled, Spells, moved}

-- the octets of a length: one below 192, two below 8384, else five
abbrev pub shortest_length : ℕ → List ℕ
shortest_length n =
    if nat_lt n 192 then n ∷ []
    else if nat_lt n 8384 then (192 + (n - 192) / 256) ∷ (n - 192) % 256 ∷ []
    else 255 ∷ to_be_bytes w32 n

abbrev pub shortest_header : ℕ → ℕ → List ℕ
shortest_header kind n = (192 + kind) ∷ shortest_length n

-- the octets of a packet
abbrev pub written : ℕ → List ℕ → List ℕ
written kind body = shortest_header kind (length body) ++ body

-- What has a spelling.
abbrev pub CanBeWritten : ℕ → List ℕ → Type 0
CanBeWritten kind body = (kind < 64) × (length body < 2 ^ 32)

-- the octets of packets, each its type and its body, one after another
abbrev pub written_all : List (ℕ × List ℕ) → List ℕ
written_all [] = []
written_all (packet ∷ packets) = written packet.0 packet.1 ++ written_all packets

-- these packets at the offsets where they are written, the first at this one
abbrev pub placed : ℕ → List (ℕ × List ℕ) → List Spelled
placed at [] = []
placed at (packet ∷ packets) =
    record { kind = packet.0; body = packet.1; at = at } ∷ placed (at + length (written packet.0 packet.1)) packets

abbrev pub AllCanBeWritten : List (ℕ × List ℕ) → Type 0
AllCanBeWritten packets = All (λ packet. CanBeWritten packet.0 packet.1) packets

-- a packet that is written in front of a text is spelled in front of that text's list
abbrev pub SpellsBefore : ℕ → List ℕ → List ℕ → List Spelled → Type 0
SpellsBefore kind body text packets =
    Spells text packets
    → Spells (written kind body ++ text)
    (record { kind = kind; body = body; at = 0 } ∷ moved (length (written kind body)) packets)

-- it is the shortest header for this type and size, or longer than that
abbrev pub IsNoShorter : List ℕ → ℕ → ℕ → Type 0
IsNoShorter header kind size =
    (header ≡ shortest_header kind size) ⊎ (length (shortest_header kind size) < length header)
