-- How many octets packets have at most.
use Rattle.std.proofs.Common.{◌≡◌, ℕ, zero, suc, ◌+◌, ◌*◌, ◌<◌, ◌≤◌, ◌^◌, true, nat_lt, List, [], ◌∷◌, ◌++◌}
use Rattle.std.proofs.Common.{length, length-append, refl, ap, sym, subst, ◌∙◌, arith}
use Rattle.std.specs.List.{AllByRecursion, flat_map}
use Rattle.std.specs.Int.{w32, to_be_bytes}
use Rattle.std.specs.Prelude.{slice_index}
use Rattle.std.proofs.lemmas.Bool.{lt-ltb}
use Rattle.std.proofs.lemmas.List.Concat.{flat_map-cons}
use Rattle.sha1.specs.Sha1.{digest_bytes, sha1}
use Rattle.wot_types.specs.Fpr.{octets_of}
use Rattle.wot_types.specs.declared.fpr.Fpr.{Fpr}
use Rattle.wot_key.specs.Key.{fpr_of, v4_digest}
use Rattle.wot_packet.specs.Writing.{written}
use Rattle.wot_random.specs.Words.{word}
use Rattle.wot_random.specs.Bodies.{created, hashed_area, key_body, signature_body, signature_over, user_id}
use Rattle.wot_random.specs.Identities.{body_at, direct_at, fpr_at, packets_at}
use Rattle.wot_random.specs.Certifications.{certification_body, certification_by, certifications_at, issuer_by}
use Rattle.wot_random.specs.Certifications.{trust_by}
use Rattle.wot_random.specs.declared.certification.Certification.{Certification}
use Rattle.wot_random.proofs.ThreeCertifications.{three_listed}
use Rattle.wot_random.proofs.Shapes.{key_length, user_id_fits}

-- ---- the packets of a key

digest_length : (h : List ℕ) (n : ℕ) → length (digest_bytes h n) ≡ 4 * n
unfolding digest_bytes
digest_length h zero = refl
digest_length h (suc n) =
    let before = digest_length h n in
    length-append (digest_bytes h n) (to_be_bytes w32 (slice_index h n)) ∙ omega (arith, before)

sha1_length : (message : List ℕ) → length (sha1 message) ≡ 20
unfolding sha1
sha1_length message = digest_length _ 5

fpr_length : (made a b c d : ℕ) → length (octets_of (fpr_of (key_body made a b c d))) ≡ 20
unfolding fpr_of v4_digest key_body
fpr_length made a b c d = sha1_length _

signature_length : (kind made : ℕ) (issuer : Fpr) (extra : List ℕ) → length (octets_of issuer) ≡ 20
    → length (signature_body kind made issuer extra) ≡ 39 + length extra
unfolding hashed_area signature_over
signature_length kind made issuer extra e =
    let area = length-append (octets_of issuer) extra in
    let body = length-append (hashed_area made issuer extra) (0 ∷ 0 ∷ 0 ∷ 0 ∷ []) in
    omega (arith, e, area, body)

written_length : (kind : ℕ) (body : List ℕ) → length body < 192 → length (written kind body) ≡ 2 + length body
written_length kind body short =
    let e : nat_lt (length body) 192 ≡ true = lt-ltb (length body) 192 short in
    rw e (omega arith)

direct_length : (start index : ℕ) → length (direct_at start index) ≡ 39
direct_length start index = signature_length 31 (created index) (fpr_at start index) [] (fpr_length _ _ _ _ _)

three_lengths : (a b c : List ℕ) → length a ≤ 40 → length b ≤ 41 → length c ≤ 43 → length (a ++ (b ++ (c ++ []))) ≤ 124
three_lengths a b c x y z =
    let last = length-append c [] in
    let two = length-append b (c ++ []) in
    let three = length-append a (b ++ (c ++ [])) in
    omega (arith, x, y, z, last, two, three)

pub packets_length : (start index : ℕ) → index < 2 ^ 32 → length (packets_at start index) ≤ 124
packets_length start index small =
    let at = 4 * index in
    let key : length (body_at start index) ≡ 38 =
    key_length (created index) (word start at) (word start (at + 1)) (word start (at + 2)) (word start (at + 3)) in
    let direct = direct_length start index in
    let uid = user_id_fits index small in
    let first = written_length 6 (body_at start index) (omega (arith, key)) in
    let second = written_length 2 (direct_at start index) (omega (arith, direct)) in
    let third = written_length 13 (user_id index) (omega (arith, uid)) in
    three_lengths (written 6 (body_at start index)) (written 2 (direct_at start index)) (written 13 (user_id index))
    (omega (arith, key, first)) (omega (arith, direct, second)) (omega (arith, uid, third))

-- ---- certifications

abbrev pub IsSmall : Certification → Type 0
IsSmall made = length made.packet ≤ 45

certification_fits : (start drawn index round : ℕ) → IsSmall (certification_by start drawn index round)
certification_fits start drawn index round =
    let issuer = issuer_by start drawn index in
    let body : length (certification_body start drawn index round) ≡ 43 =
    signature_length 16 (1100000000 + round) (fpr_at start issuer) (trust_by start drawn) (fpr_length _ _ _ _ _) in
    let packet = written_length 2 (certification_body start drawn index round) (omega (arith, body)) in
    omega (arith, body, packet)

-- at most three of them
pub record AreFew (made : List Certification) : Type 0 where
  pub count : length made ≤ 3
  pub small : AllByRecursion IsSmall made

pub certifications_fit : (start count index : ℕ) → AreFew (certifications_at start count index)
unfolding certifications_at
certifications_fit start count zero = record { count = omega arith; small = tt }
certifications_fit start count (suc index) = subst AreFew (sym (three_listed start count (suc index) (grind arith)))
    (record {
      count = omega arith;
      small = (
        certification_fits start _ (suc index) 1,
        (
          certification_fits start _ (suc index) 2,
          (certification_fits start _ (suc index) 3, tt),
        ),
      );
    })

pub packets_fit : (made : List Certification) → AllByRecursion IsSmall made
    → length (flat_map (λ (one : Certification). one.packet) made) ≤ 45 * length made
packets_fit [] all = omega arith
packets_fit (one ∷ made) all =
    let others = packets_fit made all.1 in
    let first : length one.packet ≤ 45 = all.0 in
    let both = ap length (flat_map-cons (λ (one : Certification). one.packet) one made)
    ∙ length-append one.packet (flat_map (λ (one : Certification). one.packet) made) in
    omega (arith, others, first, both)
