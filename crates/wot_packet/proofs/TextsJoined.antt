-- Concatenated texts.
use Rattle.std.proofs.Common.{◌≡◌, ℕ, ◌+◌, List, [], ◌∷◌, ◌++◌, length, refl, sym, ap, subst, ◌∙◌, arith, append_assoc}
use Rattle.std.proofs.Common.{add-zero}
use Rattle.std.proofs.lemmas.List.{append-nil}
use Rattle.wot_packet.specs.Header.{IsHeader}
use Rattle.wot_packet.specs.Spelling.{Spelled, SpellsFrom, Spells, moved}
use Rattle.wot_packet.proofs.Lists.{packet_length}

pub spelled_from : (a b : ℕ) (octets : List ℕ) (packets : List Spelled) → a ≡ b → SpellsFrom a octets packets
    → SpellsFrom b octets packets
spelled_from a b octets packets e h = subst (λ (x : ℕ). SpellsFrom x octets packets) e h

-- Octets that spell a list, and then octets that spell a list from there on, spell the one list before the other.
pub joined_from : (at : ℕ) (octets more : List ℕ) (packets others : List Spelled) → SpellsFrom at octets packets
    → SpellsFrom (at + length octets) more others
    → SpellsFrom at (octets ++ more) (packets ++ others)
joined_from at [] more [] others h k = spelled_from (at + 0) at more others (add-zero at) k
joined_from at (o ∷ octets) more [] others h k = cc
joined_from at octets more (packet ∷ packets) others h k =
    let split : octets ++ more ≡ h.0 ++ (packet.body ++ (h.1 ++ more)) =
    ap (λ (x : List ℕ). x ++ more) h.3 ∙ append_assoc h.0 (packet.body ++ h.1) more
    ∙ ap (λ (x : List ℕ). h.0 ++ x) (append_assoc packet.body h.1 more) in
    let n = packet_length octets h.0 packet.body h.1 packet.kind (length packet.body) h.2 h.3 in
    let far : at + length octets ≡ at + length h.0 + length packet.body + length h.1 = omega (arith, n.1) in (
      h.0,
      h.1 ++ more,
      h.2,
      split,
      h.4,
      joined_from (at + length h.0 + length packet.body) h.1 more packets others h.5
          (spelled_from (at + length octets) (at + length h.0 + length packet.body + length h.1) more others far k),
    )

-- Octets further on spell the same packets there.
pub moved_from : (shift at : ℕ) (octets : List ℕ) (packets : List Spelled) → SpellsFrom at octets packets
    → SpellsFrom (shift + at) octets (moved shift packets)
moved_from shift at octets [] h = h
moved_from shift at octets (packet ∷ packets) h =
    let far : shift + (at + length h.0 + length packet.body) ≡ shift + at + length h.0 + length packet.body =
    omega arith in (
      h.0,
      h.1,
      h.2,
      h.3,
      ap (λ (x : ℕ). shift + x) h.4,
      spelled_from (shift + (at + length h.0 + length packet.body)) (shift + at + length h.0 + length packet.body) h.1
          (moved shift packets) far (moved_from shift (at + length h.0 + length packet.body) h.1 packets h.5),
    )

pub joined : (text more : List ℕ) (packets others : List Spelled) → Spells text packets → Spells more others
    → Spells (text ++ more) (packets ++ moved (length text) others)
joined text more packets others h k =
    joined_from 0 text more packets (moved (length text) others) h
    (spelled_from (length text + 0) (0 + length text) more (moved (length text) others) (omega arith)
    (moved_from (length text) 0 more others k))

-- one packet
pub single : (at : ℕ) (header : List ℕ) (packet : Spelled) → IsHeader header packet.kind (length packet.body)
    → packet.at ≡ at → SpellsFrom at (header ++ packet.body) (packet ∷ [])
single at header packet h e = (header, [], h, ap (λ (x : List ℕ). header ++ x) (sym (append-nil packet.body)), e, refl)
