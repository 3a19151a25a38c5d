-- The shortest spelling of a packet.
use Rattle.std.proofs.Common.{◌≡◌, ◌⊎◌, inl, inr, ⊎_elim, ℕ, zero, suc, ◌+◌, ◌-◌, ◌*◌, ◌/◌, ◌%◌, ◌^◌, ◌<◌, ◌≤◌, ltb}
use Rattle.std.proofs.Common.{true, false, cond, List, [], ◌∷◌, ◌++◌, length, get_or, refl, sym, ap, ◌∙◌, arith}
use Rattle.std.proofs.Common.{append_assoc}
use Rattle.std.specs.Int.{w32, to_be_bytes, from_be_bytes}
use Rattle.std.specs.List.{All, AllByRecursion}
use Rattle.std.proofs.lemmas.List.{length-append}
use Rattle.std.proofs.lemmas.Bool.{ltb-true, ltb-false, lt-ltb, le-ltb, cond_both}
use Rattle.std.proofs.lemmas.Nat.{from_be_bytes-to_be_bytes_4, be_bytes_4}
use Rattle.std.proofs.lemmas.List.Elements.{recursion_from_All}
use Rattle.wot_packet.specs.Header.{IsOpenpgpLength, IsOpenpgpHeader}
use Rattle.wot_packet.specs.Spelling.{AreOctets, Spelled, Spells, SpellsFrom, moved}
use Rattle.wot_packet.specs.Writing.{shortest_length, shortest_header, written, CanBeWritten, written_all, placed}
use Rattle.wot_packet.proofs.Lengths.{IsOctet}
use Rattle.wot_packet.proofs.TextsJoined.{spelled_from, joined, single}

pub shortest_is_length : (n : ℕ) → n < 2 ^ 32 → IsOpenpgpLength (shortest_length n) n
shortest_is_length n h =
    cond_both (ltb n 192) (n ∷ [])
    (cond (ltb n 8384) ((192 + (n - 192) / 256) ∷ (n - 192) % 256 ∷ []) (255 ∷ to_be_bytes w32 n))
    (λ octets. IsOpenpgpLength octets n)
    (λ e. (ltb-true n 192 e, refl))
    (λ e. cond_both (ltb n 8384) ((192 + (n - 192) / 256) ∷ (n - 192) % 256 ∷ []) (255 ∷ to_be_bytes w32 n)
    (λ octets. IsOpenpgpLength octets n)
    (λ f. let l : 192 ≤ n = ltb-false n 192 e in let u : n < 8384 = ltb-true n 8384 f in
    (omega arith, omega arith, omega arith))
    (λ f. (refl, sym (from_be_bytes-to_be_bytes_4 n h))))

pub shortest_is_header : (kind n : ℕ) → kind < 64 → n < 2 ^ 32 → IsOpenpgpHeader (shortest_header kind n) kind n
shortest_is_header kind n k h = (k, refl, shortest_is_length n h)

octet_at : (octets : List ℕ) → AllByRecursion IsOctet octets → (i : ℕ) → get_or octets i 0 < 256
octet_at [] h i = omega arith
octet_at (o ∷ octets) h zero = h.0
octet_at (o ∷ octets) h (suc i) = octet_at octets h.1 i

abbrev IsLeast : List ℕ → List ℕ → Type 0
IsLeast least octets = (octets ≡ least) ⊎ (length least < length octets)

one_least : (a n : ℕ) → a < 192 → n ≡ a → IsLeast (shortest_length n) (a ∷ [])
one_least a n l e =
    let small : ltb n 192 ≡ true = lt-ltb n 192 (omega arith) in
    rw small (inl (ap (λ (x : ℕ). x ∷ []) (sym e)))

two_least : (a b n : ℕ) → 192 ≤ a → a < 224 → b < 256 → n ≡ (a - 192) * 256 + b + 192
    → IsLeast (shortest_length n) (a ∷ b ∷ [])
two_least a b n l u o e =
    let large : ltb n 192 ≡ false = le-ltb n 192 (omega arith) in
    let small : ltb n 8384 ≡ true = lt-ltb n 8384 (omega arith) in
    let high : 192 + (n - 192) / 256 ≡ a = omega arith in
    let low : (n - 192) % 256 ≡ b = omega arith in
    rw (large, small, high, low) (inl refl)

five_least : (a : ℕ) (octets : List ℕ) (n : ℕ) → a ≡ 255 → length octets ≡ 4 → AllByRecursion IsOctet octets
    → n ≡ from_be_bytes w32 octets → IsLeast (shortest_length n) (a ∷ octets)
five_least a octets n f l o e =
    cond_both (ltb n 192) (n ∷ [])
    (cond (ltb n 8384) ((192 + (n - 192) / 256) ∷ (n - 192) % 256 ∷ []) (255 ∷ to_be_bytes w32 n))
    (λ least. IsLeast least (a ∷ octets))
    (λ s. inr (omega (arith, l)))
    (λ s. cond_both (ltb n 8384) ((192 + (n - 192) / 256) ∷ (n - 192) % 256 ∷ []) (255 ∷ to_be_bytes w32 n)
    (λ least. IsLeast least (a ∷ octets))
    (λ t. inr (omega (arith, l)))
    (λ t. inl (ap (λ (x : ℕ). x ∷ octets) f
    ∙ ap (λ (x : List ℕ). 255 ∷ x) (sym (be_bytes_4 octets n l (octet_at octets o) e)))))

length_least : (octets : List ℕ) (n : ℕ) → AllByRecursion IsOctet octets → IsOpenpgpLength octets n
    → IsLeast (shortest_length n) octets
length_least [] n o h = absurd h
length_least (a ∷ []) n o h = one_least a n h.0 h.1
length_least (a ∷ b ∷ []) n o h = two_least a b n h.0 h.1 o.1.0 h.2
length_least (a ∷ b ∷ c ∷ []) n o h = absurd h
length_least (a ∷ b ∷ c ∷ d ∷ []) n o h = absurd h
length_least (a ∷ b ∷ c ∷ d ∷ e ∷ []) n o h = five_least a (b ∷ c ∷ d ∷ e ∷ []) n h.0 refl o.1 h.1
length_least (a ∷ b ∷ c ∷ d ∷ e ∷ f ∷ more) n o h = absurd h

-- Each other header in the OpenPGP format, of that type and length, is longer.
pub header_least : (header : List ℕ) (kind n : ℕ) → AllByRecursion IsOctet header → IsOpenpgpHeader header kind n
    → IsLeast (shortest_header kind n) header
header_least [] kind n o h = absurd h
header_least (tag ∷ octets) kind n o h =
    ⊎_elim
    (λ e. inl (ap (λ (x : ℕ). x ∷ octets) h.1 ∙ ap (λ (x : List ℕ). (192 + kind) ∷ x) e))
    (λ l. inr (omega (arith, l)))
    (length_least octets n o.1 h.2)

pub shortest_least : (header : List ℕ) (kind n : ℕ) → AreOctets header → IsOpenpgpHeader header kind n
    → (header ≡ shortest_header kind n) ⊎ (length (shortest_header kind n) < length header)
shortest_least header kind n o h = header_least header kind n (recursion_from_All IsOctet header o) h

pub written_first : (kind : ℕ) (body text : List ℕ) (packets : List Spelled) → kind < 64 → length body < 2 ^ 32
    → Spells text packets
    → Spells (written kind body ++ text)
    (record { kind = kind; body = body; at = 0 } ∷ moved (length (written kind body)) packets)
written_first kind body text packets k l h =
    joined (written kind body) text (record { kind = kind; body = body; at = 0 } ∷ []) packets
    (single 0 (shortest_header kind (length body)) (record { kind = kind; body = body; at = 0 })
    (inl (shortest_is_header kind (length body) k l)) refl) h

written_from : (at : ℕ) (packets : List (ℕ × List ℕ))
    → AllByRecursion (λ packet. CanBeWritten packet.0 packet.1) packets
    → SpellsFrom at (written_all packets) (placed at packets)
written_from at [] h = refl
written_from at (packet ∷ packets) h =
    let header = shortest_header packet.0 (length packet.1) in
    let size : length (written packet.0 packet.1) ≡ length header + length packet.1 = length-append header packet.1 in
    let offset : at + length (written packet.0 packet.1) ≡ at + length header + length packet.1 = omega (arith, size) in (
      header,
      written_all packets,
      inl (shortest_is_header packet.0 (length packet.1) h.0.0 h.0.1),
      append_assoc header packet.1 (written_all packets),
      refl,
      spelled_from (at + length (written packet.0 packet.1)) (at + length header + length packet.1)
          (written_all packets) (placed (at + length (written packet.0 packet.1)) packets) offset
          (written_from (at + length (written packet.0 packet.1)) packets h.1),
    )

pub written_back : (packets : List (ℕ × List ℕ)) → All (λ packet. CanBeWritten packet.0 packet.1) packets
    → Spells (written_all packets) (placed 0 packets)
written_back packets h =
    written_from 0 packets (recursion_from_All (λ (packet : ℕ × List ℕ). CanBeWritten packet.0 packet.1) packets h)
