-- A text spells one list or has one first fault.
use Rattle.std.proofs.Common.{◌≡◌, ◌⊎◌, inl, inr, ℕ, ◌+◌, ◌≤◌, List, ◌++◌, length, Result, Ok, Err, refl, sym, ap}
use Rattle.std.proofs.Common.{subst, ◌∙◌, arith, zero-add}
use Rattle.std.proofs.lemmas.List.Elements.{recursion_from_All}
use Rattle.wot_packet.specs.Spelling.{AreOctets, Spelled, Spells, IsFirstFault}
use Rattle.wot_packet.specs.Reading.{packets_from, packets_of}
use Rattle.wot_packet.specs.declared.packet.PacketFault.{PacketFault}
use Rattle.wot_packet.proofs.Lengths.{IsOctet}
use Rattle.wot_packet.proofs.Lists.{spelled_again, told_again, list_means, ListMeans}

pub list_read : (text : List ℕ) (packets : List Spelled) → Spells text packets → packets_of text ≡ Ok packets
list_read text packets h = spelled_again (length text) 0 text packets (omega arith) h

told : ℕ → PacketFault → PacketFault
told at fault = record { at = at; why = fault.why }

pub fault_read : (text : List ℕ) (fault : PacketFault) → IsFirstFault text fault → packets_of text ≡ Err fault
fault_read text fault h =
    let offset : 0 + length h.prefix ≡ fault.at = zero-add (length h.prefix) ∙ sym h.offset in
    let size : length (h.prefix ++ h.rest) ≤ length text = omega (arith, ap length h.split) in
    ap (λ (x : List ℕ). packets_from (length text) 0 x) h.split
    ∙ told_again (length text) 0 h.prefix h.rest h.packets fault.why size h.spelled h.here
    ∙ ap (λ (x : ℕ). Err (record { at = x; why = fault.why })) offset

pub read_means : (text : List ℕ) → AreOctets text → ListMeans 0 text (packets_of text)
read_means text h = list_means (length text) 0 text (omega arith) (recursion_from_All IsOctet text h)

means_list : (text : List ℕ) (found : Result (List Spelled) PacketFault) (packets : List Spelled)
    → ListMeans 0 text found → found ≡ Ok packets → Spells text packets
means_list text found packets h e = subst (ListMeans 0 text) e h

means_fault : (text : List ℕ) (found : Result (List Spelled) PacketFault) (fault : PacketFault) → ListMeans 0 text found
    → found ≡ Err fault → IsFirstFault text fault
means_fault text found fault h e =
    let k : ListMeans 0 text (Err fault) = subst (ListMeans 0 text) e h in
    record {
      prefix = k.prefix;
      rest = k.rest;
      split = k.split;
      offset = k.offset ∙ zero-add (length k.prefix);
      packets = k.packets;
      spelled = k.spelled;
      here = k.here;
    }

pub read_list : (text : List ℕ) (packets : List Spelled) → AreOctets text → packets_of text ≡ Ok packets
    → Spells text packets
read_list text packets h e = means_list text (packets_of text) packets (read_means text h) e

pub read_fault : (text : List ℕ) (fault : PacketFault) → AreOctets text → packets_of text ≡ Err fault
    → IsFirstFault text fault
read_fault text fault h e = means_fault text (packets_of text) fault (read_means text h) e

pub one_list : (text : List ℕ) (packets others : List Spelled) → Spells text packets → Spells text others
    → packets ≡ others
one_list text packets others h k = let e = list_read text packets h in let f = list_read text others k in cc

pub one_fault : (text : List ℕ) (fault other : PacketFault) → IsFirstFault text fault → IsFirstFault text other
    → fault ≡ other
one_fault text fault other h k = let e = fault_read text fault h in let f = fault_read text other k in cc

pub never_both : (text : List ℕ) (packets : List Spelled) (fault : PacketFault) → Spells text packets
    → IsFirstFault text fault → ⊥
never_both text packets fault h k = let e = list_read text packets h in let f = fault_read text fault k in cc

abbrev pub ListOrFault : List ℕ → Type 0
ListOrFault text = ((packets : List Spelled) × Spells text packets) ⊎ ((fault : PacketFault) × IsFirstFault text fault)

either : (text : List ℕ) (found : Result (List Spelled) PacketFault) → AreOctets text → packets_of text ≡ found
    → ListOrFault text
either text (Ok packets) h e = inl (packets, read_list text packets h e)
either text (Err fault) h e = inr (fault, read_fault text fault h e)

pub list_or_fault : (text : List ℕ) → AreOctets text → ListOrFault text
list_or_fault text h = either text (packets_of text) h refl
