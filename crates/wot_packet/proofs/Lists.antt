-- The plain reader returns the list that a text spells, or its first fault.
use Rattle.std.proofs.Common.{◌≡◌, inl, inr, ℕ, zero, suc, ◌+◌, ◌-◌, ◌<◌, ◌≤◌, List, [], ◌∷◌, ◌++◌, length, Result, Ok}
use Rattle.std.proofs.Common.{Err, refl, sym, ap, subst, ◌∙◌, arith, append_assoc, add-zero}
use Rattle.std.specs.List.{AllByRecursion}
use Rattle.std.proofs.lemmas.List.{length-append}
use Rattle.wot_packet.specs.Header.{IsHeader}
use Rattle.wot_packet.specs.Spelling.{Spelled, SpellsFrom, IsFault}
use Rattle.wot_packet.specs.Reading.{First, first_of, before, read_on, packets_from}
use Rattle.wot_packet.specs.declared.packet.PacketFault.{PacketFault}
use Rattle.wot_packet.specs.declared.packet.Why.{Why}
use Rattle.wot_packet.specs.declared.packet.Why.TheVariants.{NotAPacket, CutLength, CutBody, Partial, Indeterminate}
use Rattle.wot_packet.proofs.Lengths.{IsOctet}
use Rattle.wot_packet.proofs.First.{HasPacket, FirstMeans, first_means, first, packet_again, fault_again}

-- A header has octets.
pub header_length : (header : List ℕ) (kind size : ℕ) → IsHeader header kind size → 0 < length header
header_length [] kind size (inl h) = absurd h
header_length [] kind size (inr h) = absurd h
header_length (tag ∷ octets) kind size h = omega arith

-- A header, a body and a rest together aren't empty.
pub packet_length : (octets header body rest : List ℕ) (kind size : ℕ) → IsHeader header kind size
    → octets ≡ header ++ (body ++ rest)
    → (0 < length header) × (length octets ≡ length header + (length body + length rest))
packet_length octets header body rest kind size h e = (
  header_length header kind size h,
  ap length e ∙ length-append header (body ++ rest) ∙ ap (λ (x : ℕ). length header + x) (length-append body rest),
)

-- where the next packet begins
next_offset : (at count header body rest : ℕ) → count ≡ header + (body + rest)
    → at + (count - rest) ≡ at + header + body
next_offset at count header body rest e = omega arith

-- What is spelled is read.
pub spelled_again : (most at : ℕ) (octets : List ℕ) (packets : List Spelled) → length octets ≤ most
    → SpellsFrom at octets packets → packets_from most at octets ≡ Ok packets
spelled_again most at [] [] l h = refl
spelled_again most at (o ∷ octets) [] l h = cc
spelled_again most at [] (packet ∷ packets) l h =
    let n = packet_length [] h.0 packet.body h.1 packet.kind (length packet.body) h.2 h.3 in
    absurd (omega (arith, n.0, n.1))
spelled_again zero at (o ∷ octets) (packet ∷ packets) l h = absurd (omega arith)
spelled_again (suc most) at (o ∷ octets) (packet ∷ packets) l h =
    let n = packet_length (o ∷ octets) h.0 packet.body h.1 packet.kind (length packet.body) h.2 h.3 in
    let here : first_of (o ∷ octets) ≡ Ok (first packet.kind packet.body h.1) =
    ap first_of h.3 ∙ packet_again h.0 packet.kind packet.body h.1 h.2 in
    let offset : at + (length (o ∷ octets) - length h.1) ≡ at + length h.0 + length packet.body =
    next_offset at (length (o ∷ octets)) (length h.0) (length packet.body) (length h.1) n.1 in
    let shorter : length h.1 ≤ most = omega (arith, n.0, n.1, l) in
    let others : packets_from most (at + length h.0 + length packet.body) h.1 ≡ Ok packets =
    spelled_again most (at + length h.0 + length packet.body) h.1 packets shorter h.5 in
    ap (λ x. read_on at (length (o ∷ octets)) x (packets_from most)) here
    ∙ ap (λ (x : ℕ). before (record { kind = packet.kind; body = packet.body; at = at }) (packets_from most x h.1))
    offset
    ∙ ap (before (record { kind = packet.kind; body = packet.body; at = at })) others
    ∙ ap (λ (x : ℕ). Ok (record { kind = packet.kind; body = packet.body; at = x } ∷ packets)) (sym h.4)

-- Only octets have a fault.
fault_begins : (why : Why) → IsFault why [] → ⊥
fault_begins NotAPacket h = h
fault_begins CutLength h = h.begun refl
fault_begins CutBody h =
    let n = header_length h.prefix h.kind h.size h.header in
    let m : 0 ≡ length h.prefix + length h.rest = ap length h.split ∙ length-append h.prefix h.rest in
    absurd (omega (arith, n, m))
fault_begins Partial h = h
fault_begins Indeterminate h = h

fault_at : (most at : ℕ) (rest : List ℕ) (why : Why) → length rest ≤ most → IsFault why rest
    → packets_from most at rest ≡ Err (record { at = at; why = why })
fault_at most at [] why l h = absurd (fault_begins why h)
fault_at zero at (o ∷ rest) why l h = absurd (omega arith)
fault_at (suc most) at (o ∷ rest) why l h =
    ap (λ x. read_on at (length (o ∷ rest)) x (packets_from most)) (fault_again why (o ∷ rest) h)

-- A fault after packets is returned.
pub told_again : (most at : ℕ) (prefix rest : List ℕ) (packets : List Spelled) (why : Why)
    → length (prefix ++ rest) ≤ most → SpellsFrom at prefix packets → IsFault why rest
    → packets_from most at (prefix ++ rest) ≡ Err (record { at = at + length prefix; why = why })
told_again most at [] rest [] why l h f =
    fault_at most at rest why l f ∙ ap (λ (x : ℕ). Err (record { at = x; why = why })) (sym (add-zero at))
told_again most at (o ∷ prefix) rest [] why l h f = cc
told_again most at [] rest (packet ∷ packets) why l h f =
    let n = packet_length [] h.0 packet.body h.1 packet.kind (length packet.body) h.2 h.3 in
    absurd (omega (arith, n.0, n.1))
told_again zero at (o ∷ prefix) rest (packet ∷ packets) why l h f = absurd (omega arith)
told_again (suc most) at (o ∷ prefix) rest (packet ∷ packets) why l h f =
    let split : (o ∷ prefix) ++ rest ≡ h.0 ++ (packet.body ++ (h.1 ++ rest)) =
    ap (λ (x : List ℕ). x ++ rest) h.3 ∙ append_assoc h.0 (packet.body ++ h.1) rest
    ∙ ap (λ (x : List ℕ). h.0 ++ x) (append_assoc packet.body h.1 rest) in
    let n = packet_length (o ∷ prefix) h.0 packet.body h.1 packet.kind (length packet.body) h.2 h.3 in
    let m = packet_length ((o ∷ prefix) ++ rest) h.0 packet.body (h.1 ++ rest) packet.kind (length packet.body) h.2
    split in
    let here : first_of ((o ∷ prefix) ++ rest) ≡ Ok (first packet.kind packet.body (h.1 ++ rest)) =
    ap first_of split ∙ packet_again h.0 packet.kind packet.body (h.1 ++ rest) h.2 in
    let offset : at + (length ((o ∷ prefix) ++ rest) - length (h.1 ++ rest)) ≡ at + length h.0 + length packet.body =
    next_offset at (length ((o ∷ prefix) ++ rest)) (length h.0) (length packet.body) (length (h.1 ++ rest)) m.1 in
    let shorter : length (h.1 ++ rest) ≤ most = omega (arith, m.0, m.1, l) in
    let others : packets_from most (at + length h.0 + length packet.body) (h.1 ++ rest) ≡ Err
    (record { at = at + length h.0 + length packet.body + length h.1; why = why }) =
    told_again most (at + length h.0 + length packet.body) h.1 rest packets why shorter h.5 f in
    let far : at + length h.0 + length packet.body + length h.1 ≡ at + length (o ∷ prefix) = omega (arith, n.1) in
    ap (λ x. read_on at (length ((o ∷ prefix) ++ rest)) x (packets_from most)) here
    ∙ ap (λ (x : ℕ). before (record { kind = packet.kind; body = packet.body; at = at })
    (packets_from most x (h.1 ++ rest))) offset
    ∙ ap (before (record { kind = packet.kind; body = packet.body; at = at })) others
    ∙ ap (λ (x : ℕ). Err (record { at = x; why = why })) far

-- What is read is spelled, and what is returned as a fault is the first one.
pub record FaultFrom (at : ℕ) (octets : List ℕ) (fault : PacketFault) : Type 0 where
  pub prefix : List ℕ
  pub rest : List ℕ
  pub split : octets ≡ prefix ++ rest
  pub offset : fault.at ≡ at + length prefix
  pub packets : List Spelled
  pub spelled : SpellsFrom at prefix packets
  pub here : IsFault fault.why rest

abbrev pub ListMeans : ℕ → List ℕ → Result (List Spelled) PacketFault → Type 0
ListMeans at octets (Ok packets) = SpellsFrom at octets packets
ListMeans at octets (Err fault) = FaultFrom at octets fault

before_means : (at : ℕ) (octets : List ℕ) (found : First) (others : Result (List Spelled) PacketFault)
    (h : HasPacket octets found)
    → ListMeans (at + length h.header + length found.body) found.rest others
    → ListMeans at octets (before (record { kind = found.kind; body = found.body; at = at }) others)
before_means at octets found (Ok packets) h k = (h.header, found.rest, h.is, h.split, refl, k)
before_means at octets found (Err fault) h k =
    let whole : h.header ++ (found.body ++ found.rest) ≡ (h.header ++ (found.body ++ k.prefix)) ++ k.rest =
    ap (λ (x : List ℕ). h.header ++ (found.body ++ x)) k.split
    ∙ ap (λ (x : List ℕ). h.header ++ x) (sym (append_assoc found.body k.prefix k.rest))
    ∙ sym (append_assoc h.header (found.body ++ k.prefix) k.rest) in
    let far : length (h.header ++ (found.body ++ k.prefix)) ≡ length h.header + (length found.body + length k.prefix) =
    length-append h.header (found.body ++ k.prefix)
    ∙ ap (λ (x : ℕ). length h.header + x) (length-append found.body k.prefix) in
    record {
      prefix = h.header ++ (found.body ++ k.prefix);
      rest = k.rest;
      split = h.split ∙ whole;
      offset = omega (arith, k.offset, far);
      packets = record { kind = found.kind; body = found.body; at = at } ∷ k.packets;
      spelled = (h.header, k.prefix, h.is, refl, refl, k.spelled);
      here = k.here;
    }

behind : (prefix rest : List ℕ) → AllByRecursion IsOctet (prefix ++ rest) → AllByRecursion IsOctet rest
behind [] rest h = h
behind (o ∷ prefix) rest h = behind prefix rest h.1

read_means : (at : ℕ) (octets : List ℕ) (found : Result First Why)
    (others : ℕ → List ℕ → Result (List Spelled) PacketFault)
    → FirstMeans octets found → AllByRecursion IsOctet octets
    → ((offset : ℕ) (rest : List ℕ) → length rest < length octets → AllByRecursion IsOctet rest
    → ListMeans offset rest (others offset rest))
    → ListMeans at octets (read_on at (length octets) found others)
read_means at octets (Err why) others h o k =
    record {
      prefix = [];
      rest = octets;
      split = refl;
      offset = sym (add-zero at);
      packets = [];
      spelled = refl;
      here = h;
    }
read_means at octets (Ok found) others h o k =
    let n = packet_length octets h.header found.body found.rest found.kind (length found.body) h.is h.split in
    let offset : at + (length octets - length found.rest) ≡ at + length h.header + length found.body =
    next_offset at (length octets) (length h.header) (length found.body) (length found.rest) n.1 in
    let octets_behind : AllByRecursion IsOctet found.rest =
    behind found.body found.rest
    (behind h.header (found.body ++ found.rest) (subst (AllByRecursion IsOctet) h.split o)) in
    let all : ListMeans (at + length h.header + length found.body) found.rest
    (others (at + length h.header + length found.body) found.rest) =
    k (at + length h.header + length found.body) found.rest (omega (arith, n.0, n.1)) octets_behind in
    rw offset (before_means at octets found (others (at + length h.header + length found.body) found.rest) h all)

pub list_means : (most at : ℕ) (octets : List ℕ) → length octets ≤ most → AllByRecursion IsOctet octets
    → ListMeans at octets (packets_from most at octets)
list_means most at [] l h = refl
list_means zero at (o ∷ octets) l h = absurd (omega arith)
list_means (suc most) at (o ∷ octets) l h =
    read_means at (o ∷ octets) (first_of (o ∷ octets)) (packets_from most) (first_means o octets h) h
    (λ offset rest shorter octets_behind. list_means most offset rest (omega arith) octets_behind)
