-- Reading packet by packet.
use Rattle.std.proofs.Common.{◌≡◌, ℕ, zero, suc, ◌+◌, ◌-◌, ◌<◌, ◌≤◌, List, [], ◌∷◌, ◌++◌, length, take, drop, get_or}
use Rattle.std.proofs.Common.{Ok, Err, refl, sym, ap, subst, ◌∙◌, arith, append_assoc}
use Rattle.std.specs.List.{AllByRecursion}
use Rattle.std.proofs.lemmas.List.{length-append, length-take-le, length-drop, take-append-drop, take_at, take_all}
use Rattle.std.proofs.lemmas.List.{map_push}
use Rattle.std.proofs.lemmas.List.Elements.{All-from_get_or, recursion_from_All}
use Rattle.wot_packet.specs.Reading.{first_of}
use Rattle.wot_packet.specs.Seen.{first_seen}
use Rattle.wot_packet.specs.Spelling.{Spells, IsFirstFault, spelled_of, spelled_all}
use Rattle.wot_packet.specs.declared.packet.Packet.{Packet}
use Rattle.wot_packet.specs.declared.packet.Why.{Why}
use Rattle.wot_packet.proofs.Lengths.{IsOctet}
use Rattle.wot_packet.proofs.First.{HasPacket, FirstMeans, first_means}
use Rattle.wot_packet.proofs.Lists.{packet_length}
use Rattle.wot_packet.proofs.TextsJoined.{joined_from, single}

-- What comes before this offset spells the packets.
pub record ReadSoFar (text : List ℕ) (at : ℕ) (packets : List Packet) : Type 0 where
  pub in_range : at ≤ length text
  pub spelled : Spells (take at text) (spelled_all packets)

abbrev pub Bytes : List ℕ → Type 0
Bytes text = (i : ℕ) → get_or text i 0 < 256

pub octets_from : (text : List ℕ) → Bytes text → AllByRecursion IsOctet text
octets_from text h = recursion_from_All IsOctet text (All-from_get_or IsOctet text 0 (λ i l. h i))

dropped : (n : ℕ) (octets : List ℕ) → AllByRecursion IsOctet octets → AllByRecursion IsOctet (drop n octets)
dropped zero octets h = h
dropped (suc n) [] h = h
dropped (suc n) (o ∷ octets) h = dropped n octets h.1

means : (octets : List ℕ) → 0 < length octets → AllByRecursion IsOctet octets → FirstMeans octets (first_of octets)
means [] l h = absurd (omega arith)
means (o ∷ octets) l h = first_means o octets h

means_here : (text : List ℕ) (at : ℕ) → Bytes text → at < length text
    → FirstMeans (drop at text) (first_of (drop at text))
means_here text at b l =
    means (drop at text) (omega (arith, length-drop at text)) (dropped at text (octets_from text b))

pub nothing_read : (text : List ℕ) → ReadSoFar text 0 []
nothing_read text = record { in_range = omega arith; spelled = refl }

pub one_more : (text : List ℕ) (at : ℕ) (packets : List Packet) (packet : Packet) (rest : List ℕ) → Bytes text
    → ReadSoFar text at packets → at < length text
    → packet.at ≡ at → first_of (drop at text) ≡ Ok (first_seen packet rest)
    → ReadSoFar text (length text - length rest) (packets ++ packet ∷ [])
one_more text at packets packet rest b so l e f =
    let h : HasPacket (drop at text) (first_seen packet rest) =
    subst (FirstMeans (drop at text)) f (means_here text at b l) in
    let n = packet_length (drop at text) h.header packet.body.now rest packet.kind (length packet.body.now) h.is
    h.split in
    let m : length (drop at text) ≡ length text - at = length-drop at text in
    let here : length (take at text) ≡ at = length-take-le at text so.in_range in
    let whole : text ≡ (take at text ++ (h.header ++ packet.body.now)) ++ rest =
    sym (take-append-drop at text)
    ∙ ap (λ (x : List ℕ). take at text ++ x) (h.split ∙ sym (append_assoc h.header packet.body.now rest))
    ∙ sym (append_assoc (take at text) (h.header ++ packet.body.now) rest) in
    let size : length (take at text ++ (h.header ++ packet.body.now)) ≡ length text - length rest =
    length-append (take at text) (h.header ++ packet.body.now)
    ∙ omega (arith, here, length-append h.header packet.body.now, n.1, m) in
    let prefix : take (length text - length rest) text ≡ take at text ++ (h.header ++ packet.body.now) =
    ap (λ (x : List ℕ). take (length text - length rest) x) whole
    ∙ take_at (take at text ++ (h.header ++ packet.body.now)) rest (length text - length rest) size in
    let offset : packet.at ≡ 0 + length (take at text) = omega (arith, e, here) in
    let spelled : Spells (take at text ++ (h.header ++ packet.body.now))
    (spelled_all packets ++ spelled_of packet ∷ []) =
    joined_from 0 (take at text) (h.header ++ packet.body.now) (spelled_all packets) (spelled_of packet ∷ []) so.spelled
    (single (0 + length (take at text)) h.header (spelled_of packet) h.is offset) in
    record {
      in_range = omega arith;
      spelled = rw (prefix, map_push spelled_of packets packet) spelled;
    }

pub all_read : (text : List ℕ) (at : ℕ) (packets : List Packet) → ReadSoFar text at packets → length text ≤ at
    → Spells text (spelled_all packets)
all_read text at packets so l = subst (λ (x : List ℕ). Spells x (spelled_all packets)) (take_all at text l) so.spelled

pub fault_here : (text : List ℕ) (at : ℕ) (packets : List Packet) (why : Why) → Bytes text → ReadSoFar text at packets
    → at < length text
    → first_of (drop at text) ≡ Err why → IsFirstFault text (record { at = at; why = why })
fault_here text at packets why b so l f =
    record {
      prefix = take at text;
      rest = drop at text;
      split = sym (take-append-drop at text);
      offset = sym (length-take-le at text so.in_range);
      packets = spelled_all packets;
      spelled = so.spelled;
      here = subst (FirstMeans (drop at text)) f (means_here text at b l);
    }
