-- What the plain reader finds of a packet is what the octets spell.
use Rattle.std.proofs.Common.{◌≡◌, ℕ, ltb, true, false, List, ◌∷◌, ◌++◌, length, take, drop, Result, Ok, Err, refl, sym}
use Rattle.std.proofs.Common.{ap, ◌∙◌, arith}
use Rattle.std.specs.List.{AllByRecursion}
use Rattle.std.proofs.lemmas.List.{length-append, length-take-le, take-append-drop, take_at, drop_at}
use Rattle.std.proofs.lemmas.Bool.{ltb-true, ltb-false, lt-ltb, le-ltb, cond_both}
use Rattle.wot_packet.specs.Header.{IsHeader}
use Rattle.wot_packet.specs.Spelling.{IsFault}
use Rattle.wot_packet.specs.Reading.{Headed, headed_of, First, body_of, first_of}
use Rattle.wot_packet.specs.declared.packet.Why.{Why}
use Rattle.wot_packet.specs.declared.packet.Why.TheVariants.{NotAPacket, CutLength, CutBody, Partial, Indeterminate}
use Rattle.wot_packet.proofs.Lengths.{IsOctet}
use Rattle.wot_packet.proofs.Headers.{HeadedMeans, headed_means, header_again, cut_again, not_again, partial_again}
use Rattle.wot_packet.proofs.Headers.{indeterminate_again}

-- A packet is at the beginning, and the rest follows it.
pub record HasPacket (octets : List ℕ) (first : First) : Type 0 where
  pub header : List ℕ
  pub is : IsHeader header first.kind (length first.body)
  pub split : octets ≡ header ++ (first.body ++ first.rest)

abbrev pub FirstMeans : List ℕ → Result First Why → Type 0
FirstMeans octets (Ok first) = HasPacket octets first
FirstMeans octets (Err why) = IsFault why octets

body_means : (octets : List ℕ) (found : Result Headed Why) → HeadedMeans octets found
    → FirstMeans octets (body_of found)
body_means octets (Err NotAPacket) h = h
body_means octets (Err CutLength) h = h
body_means octets (Err CutBody) h = absurd h
body_means octets (Err Partial) h = h
body_means octets (Err Indeterminate) h = h
body_means octets (Ok found) h =
    cond_both (ltb (length found.rest) found.size) (Err CutBody)
    (Ok (record { kind = found.kind; body = take found.size found.rest; rest = drop found.size found.rest }))
    (FirstMeans octets)
    (λ e. record {
      prefix = h.header;
      rest = found.rest;
      split = h.split;
      kind = found.kind;
      size = found.size;
      header = h.is;
      fewer = ltb-true (length found.rest) found.size e;
    })
    (λ e.
    let size : length (take found.size found.rest) ≡ found.size =
    length-take-le found.size found.rest (ltb-false (length found.rest) found.size e) in
    record {
      header = h.header;
      is = rw size h.is;
      split = h.split ∙ ap (λ (x : List ℕ). h.header ++ x) (sym (take-append-drop found.size found.rest));
    })

pub first_means : (tag : ℕ) (octets : List ℕ) → AllByRecursion IsOctet (tag ∷ octets)
    → FirstMeans (tag ∷ octets) (first_of (tag ∷ octets))
first_means tag octets h = body_means (tag ∷ octets) (headed_of (tag ∷ octets)) (headed_means tag octets h)

-- A packet that is spelled is found, whatever follows it.
abbrev pub first : ℕ → List ℕ → List ℕ → First
first kind body rest = record { kind = kind; body = body; rest = rest }

pub packet_again : (header : List ℕ) (kind : ℕ) (body rest : List ℕ) → IsHeader header kind (length body)
    → first_of (header ++ (body ++ rest)) ≡ Ok (first kind body rest)
packet_again header kind body rest h =
    let enough : ltb (length (body ++ rest)) (length body) ≡ false =
    le-ltb (length (body ++ rest)) (length body) (omega (arith, length-append body rest)) in
    ap body_of (header_again header kind (length body) (body ++ rest) h)
    ∙ rw (enough, take_at body rest (length body) refl, drop_at body rest (length body) refl) refl

-- A fault at the beginning is found.
pub fault_again : (why : Why) (octets : List ℕ) → IsFault why octets → first_of octets ≡ Err why
fault_again NotAPacket octets h = ap body_of (not_again octets h)
fault_again CutLength octets h = ap body_of (cut_again octets h)
fault_again CutBody octets h =
    let fewer : ltb (length h.rest) h.size ≡ true = lt-ltb (length h.rest) h.size h.fewer in
    ap first_of h.split ∙ ap body_of (header_again h.prefix h.kind h.size h.rest h.header) ∙ rw fewer refl
fault_again Partial octets h = ap body_of (partial_again octets h)
fault_again Indeterminate octets h = ap body_of (indeterminate_again octets h)
