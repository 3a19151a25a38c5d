-- Texts of packets: the list that they spell, or their first fault (RFC 9580, section 4.2).
use Rattle.std.specs.Prelude.{◌≡◌, ◌≢◌, ℕ, ◌+◌, ◌*◌, ◌^◌, ◌<◌, ◌≤◌, List, [], ◌∷◌, ◌++◌, length, map}
use Rattle.std.specs.List.{All, AllByRecursion}
use Rattle.wot_packet.specs.Header.{IsHeader}
use Rattle.wot_packet.specs.declared.packet.Packet.{Packet}
use Rattle.wot_packet.specs.declared.packet.PacketFault.{PacketFault}
use Rattle.wot_packet.specs.declared.packet.Why.{Why}
use Rattle.wot_packet.specs.declared.packet.Why.TheVariants.{NotAPacket, CutLength, CutBody, Partial, Indeterminate}

-- These numbers are octets.
abbrev pub AreOctets : List ℕ → Type 0
AreOctets octets = All (λ octet. octet < 256) octets

-- a packet of a text: its type, its body, and the offset of its first octet
pub record Spelled : Type 0 where
  pub kind : ℕ
  pub body : List ℕ
  pub at : ℕ

-- These octets, of which the first stands at this offset, spell that list of packets: no octets spell the empty
-- list; and a header, a body of its length and octets that spell a list spell that packet before that list.
abbrev pub SpellsFrom : ℕ → List ℕ → List Spelled → Type 0
SpellsFrom at octets [] = octets ≡ []
SpellsFrom at octets (packet ∷ packets) = (header : List ℕ) × (rest : List ℕ)
    × IsHeader header packet.kind (length packet.body)
    × (octets ≡ header ++ (packet.body ++ rest))
    × (packet.at ≡ at)
    × SpellsFrom (at + length header + length packet.body) rest packets

-- This text spells that list of packets.
abbrev pub Spells : List ℕ → List Spelled → Type 0
Spells text packets = SpellsFrom 0 text packets

-- Bit 7 of the first octet is clear.
abbrev pub IsNotAPacket : List ℕ → Type 0
IsNotAPacket [] = ⊥
IsNotAPacket (tag ∷ octets) = tag < 128

-- A header is begun, and octets of it are missing.
pub record IsCutLength (octets : List ℕ) : Type 0 where
  pub begun : octets ≢ []
  pub missing : List ℕ
  pub some : missing ≢ []
  pub kind : ℕ
  pub size : ℕ
  pub header : IsHeader (octets ++ missing) kind size

-- Behind a header are fewer octets than the body's length.
pub record IsCutBody (octets : List ℕ) : Type 0 where
  pub prefix : List ℕ
  pub rest : List ℕ
  pub split : octets ≡ prefix ++ rest
  pub kind : ℕ
  pub size : ℕ
  pub header : IsHeader prefix kind size
  pub fewer : length rest < size

-- In the OpenPGP format a first length octet of 224 to 254 begins a partial length (section 4.2.1.4).
abbrev pub IsPartial : List ℕ → Type 0
IsPartial (tag ∷ first ∷ octets) = (192 ≤ tag) × (tag < 256) × (224 ≤ first) × (first < 255)
IsPartial _ = ⊥

-- In the legacy format length type 3 is an indeterminate length (section 4.2.2.4).
abbrev pub IsIndeterminate : List ℕ → Type 0
IsIndeterminate [] = ⊥
IsIndeterminate (tag ∷ octets) = (kind : ℕ) × (kind < 16) × (tag ≡ 128 + 4 * kind + 3)

-- This is why no packet is at the beginning of these octets.
abbrev pub IsFault : Why → List ℕ → Type 0
IsFault NotAPacket octets = IsNotAPacket octets
IsFault CutLength octets = IsCutLength octets
IsFault CutBody octets = IsCutBody octets
IsFault Partial octets = IsPartial octets
IsFault Indeterminate octets = IsIndeterminate octets

-- The first fault of a text: what comes before it spells a list of packets, and no packet begins there.
pub record IsFirstFault (text : List ℕ) (fault : PacketFault) : Type 0 where
  pub prefix : List ℕ
  pub rest : List ℕ
  pub split : text ≡ prefix ++ rest
  pub offset : fault.at ≡ length prefix
  pub packets : List Spelled
  pub spelled : Spells prefix packets
  pub here : IsFault fault.why rest

-- a packet without where its body lies in memory
abbrev pub spelled_of : Packet → Spelled
spelled_of packet = record { kind = packet.kind; body = packet.body.now; at = packet.at }

abbrev pub spelled_all : List Packet → List Spelled
spelled_all packets = map spelled_of packets

-- these packets, each `shift` octets further on
abbrev pub moved : ℕ → List Spelled → List Spelled
moved shift packets = map (λ packet. record { kind = packet.kind; body = packet.body; at = shift + packet.at }) packets

-- The length of each body fits in four octets.
abbrev pub AreShort : List Spelled → Type 0
AreShort packets = AllByRecursion (λ (p : Spelled). length p.body < 2 ^ 32) packets

-- a text spells some list; or it has a first fault
abbrev pub SpellsSome : List ℕ → Type 0
SpellsSome text = (packets : List Spelled) × Spells text packets

abbrev pub HasFault : List ℕ → Type 0
HasFault text = (fault : PacketFault) × IsFirstFault text fault

-- if the text after it spells others, both together spell the concatenation of the lists
abbrev pub SpellsBoth : List ℕ → List ℕ → List Spelled → List Spelled → Type 0
SpellsBoth text more packets others = Spells more others → Spells (text ++ more) (packets ++ moved (length text) others)
