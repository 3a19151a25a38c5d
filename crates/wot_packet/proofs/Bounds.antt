-- What every packet of a text keeps to.
use Rattle.std.proofs.Common.{◌≡◌, ⊎_elim, ℕ, ◌+◌, ◌*◌, ◌^◌, ◌<◌, ◌≤◌, List, [], ◌∷◌, ◌++◌, length, subst, arith}
use Rattle.std.specs.List.{AllByRecursion, All}
use Rattle.std.specs.Int.{w32, from_be_bytes}
use Rattle.std.proofs.lemmas.List.{length-map}
use Rattle.std.proofs.lemmas.List.Elements.{All-from_recursion}
use Rattle.wot_packet.specs.Header.{IsOpenpgpLength, IsLegacyLength, IsOpenpgpHeader, IsLegacyHeader, IsHeader}
use Rattle.wot_packet.specs.Spelling.{AreShort, Spelled, SpellsFrom, Spells, spelled_of, spelled_all}
use Rattle.wot_packet.specs.declared.packet.Packet.{Packet}
use Rattle.wot_packet.proofs.Lengths.{IsOctet}
use Rattle.wot_packet.proofs.Lists.{packet_length}
use Rattle.wot_packet.proofs.PacketByPacket.{Bytes, octets_from}

number_bound : (a b c d n : ℕ) → AllByRecursion IsOctet (a ∷ b ∷ c ∷ d ∷ [])
    → n ≡ from_be_bytes w32 (a ∷ b ∷ c ∷ d ∷ []) → n < 2 ^ 32
number_bound a b c d n o e = omega (arith, o.0, o.1.0, o.1.1.0, o.1.1.1.0, e)

openpgp_bound : (octets : List ℕ) (n : ℕ) → AllByRecursion IsOctet octets → IsOpenpgpLength octets n → n < 2 ^ 32
openpgp_bound [] n o h = absurd h
openpgp_bound (a ∷ []) n o h = omega arith
openpgp_bound (a ∷ b ∷ []) n o h = omega (arith, o.1.0, h.1, h.2)
openpgp_bound (a ∷ b ∷ c ∷ []) n o h = absurd h
openpgp_bound (a ∷ b ∷ c ∷ d ∷ []) n o h = absurd h
openpgp_bound (a ∷ b ∷ c ∷ d ∷ e ∷ []) n o h = number_bound b c d e n o.1 h.1
openpgp_bound (a ∷ b ∷ c ∷ d ∷ e ∷ f ∷ more) n o h = absurd h

legacy_bound : (type : ℕ) (octets : List ℕ) (n : ℕ) → AllByRecursion IsOctet octets → IsLegacyLength type octets n
    → n < 2 ^ 32
legacy_bound type [] n o h = absurd h
legacy_bound type (a ∷ []) n o h = omega (arith, o.0, h.1)
legacy_bound type (a ∷ b ∷ []) n o h = omega (arith, o.0, o.1.0, h.1)
legacy_bound type (a ∷ b ∷ c ∷ []) n o h = absurd h
legacy_bound type (a ∷ b ∷ c ∷ d ∷ []) n o h = number_bound a b c d n o h.1
legacy_bound type (a ∷ b ∷ c ∷ d ∷ e ∷ more) n o h = absurd h

openpgp_header_bound : (header : List ℕ) (kind size : ℕ) → AllByRecursion IsOctet header
    → IsOpenpgpHeader header kind size → (kind ≤ 63) × (size < 2 ^ 32)
openpgp_header_bound [] kind size o h = absurd h
openpgp_header_bound (tag ∷ octets) kind size o h = (omega arith, openpgp_bound octets size o.1 h.2)

legacy_header_bound : (header : List ℕ) (kind size : ℕ) → AllByRecursion IsOctet header
    → IsLegacyHeader header kind size → (kind ≤ 63) × (size < 2 ^ 32)
legacy_header_bound [] kind size o h = absurd h
legacy_header_bound (tag ∷ octets) kind size o h = (omega arith, legacy_bound h.0 octets size o.1 h.3)

header_bound : (header : List ℕ) (kind size : ℕ) → AllByRecursion IsOctet header → IsHeader header kind size
    → (kind ≤ 63) × (size < 2 ^ 32)
header_bound header kind size o h =
    ⊎_elim (openpgp_header_bound header kind size o) (legacy_header_bound header kind size o) h

parts : (prefix rest : List ℕ) → AllByRecursion IsOctet (prefix ++ rest)
    → AllByRecursion IsOctet prefix × AllByRecursion IsOctet rest
parts [] rest h = (tt, h)
parts (o ∷ prefix) rest h = let k = parts prefix rest h.1 in ((h.0, k.0), k.1)

abbrev InBounds : Spelled → Type 0
InBounds packet = (packet.kind ≤ 63) × (length packet.body < 2 ^ 32)

list_bounds : (at : ℕ) (octets : List ℕ) (packets : List Spelled) → AllByRecursion IsOctet octets
    → SpellsFrom at octets packets → AllByRecursion InBounds packets
list_bounds at octets [] o h = tt
list_bounds at octets (packet ∷ packets) o h =
    let p = parts h.0 (packet.body ++ h.1) (subst (AllByRecursion IsOctet) h.3 o) in
    let q = parts packet.body h.1 p.1 in (
      header_bound h.0 packet.kind (length packet.body) p.0 h.2,
      list_bounds (at + length h.0 + length packet.body) h.1 packets q.1 h.5,
    )

seen_bounds : (packets : List Packet) → AllByRecursion InBounds (spelled_all packets)
    → AllByRecursion (λ packet. (packet.kind ≤ 63) × (length packet.body.now < 2 ^ 32)) packets
seen_bounds [] h = tt
seen_bounds (packet ∷ packets) h = (h.0, seen_bounds packets h.1)

pub packet_bounds : (text : List ℕ) (packets : List Packet) → Bytes text → Spells text (spelled_all packets)
    → All (λ packet. (packet.kind ≤ 63) × (length packet.body.now < 2 ^ 32)) packets
packet_bounds text packets b h =
    All-from_recursion (λ packet. (packet.kind ≤ 63) × (length packet.body.now < 2 ^ 32)) packets
    (seen_bounds packets (list_bounds 0 text (spelled_all packets) (octets_from text b) h))

all_short : (packets : List Spelled) → AllByRecursion InBounds packets → AreShort packets
all_short [] h = tt
all_short (packet ∷ packets) h = (h.0.1, all_short packets h.1)

pub packets_short : (text : List ℕ) (packets : List Packet) → Bytes text → Spells text (spelled_all packets)
    → AreShort (spelled_all packets)
packets_short text packets b h =
    all_short (spelled_all packets) (list_bounds 0 text (spelled_all packets) (octets_from text b) h)

-- ---- how many packets

openpgp_two : (header : List ℕ) (kind size : ℕ) → IsOpenpgpHeader header kind size → 2 ≤ length header
openpgp_two [] kind size h = absurd h
openpgp_two (tag ∷ []) kind size h = absurd h.2
openpgp_two (tag ∷ octet ∷ octets) kind size h = omega arith

legacy_two : (header : List ℕ) (kind size : ℕ) → IsLegacyHeader header kind size → 2 ≤ length header
legacy_two [] kind size h = absurd h
legacy_two (tag ∷ []) kind size h = absurd h.3
legacy_two (tag ∷ octet ∷ octets) kind size h = omega arith

header_two : (header : List ℕ) (kind size : ℕ) → IsHeader header kind size → 2 ≤ length header
header_two header kind size h = ⊎_elim (openpgp_two header kind size) (legacy_two header kind size) h

list_few : (at : ℕ) (octets : List ℕ) (packets : List Spelled) → SpellsFrom at octets packets
    → 2 * length packets ≤ length octets
list_few at octets [] h = omega arith
list_few at octets (packet ∷ packets) h =
    let two = header_two h.0 packet.kind (length packet.body) h.2 in
    let whole = packet_length octets h.0 packet.body h.1 packet.kind (length packet.body) h.2 h.3 in
    omega (arith, two, whole.1, list_few (at + length h.0 + length packet.body) h.1 packets h.5)

pub packets_few : (text : List ℕ) (packets : List Packet) → Spells text (spelled_all packets)
    → 2 * length packets ≤ length text
packets_few text packets h = omega (arith, list_few 0 text (spelled_all packets) h, length-map packets spelled_of)
