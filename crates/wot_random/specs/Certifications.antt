-- Three certifications of each user ID but the first, each by a key with a lower index.
use Rattle.std.specs.Prelude.{ℕ, ◌+◌, ◌-◌, ◌*◌, ◌/◌, ◌%◌, ◌==◌, if◌then◌else◌, List, [], ◌∷◌, map}
use Rattle.wot_packet.specs.Writing.{written}
use Rattle.wot_verdict.specs.Number.{number_of}
use Rattle.wot_random.specs.Words.{word}
use Rattle.wot_random.specs.Bodies.{user_id, signature_body, trust}
use Rattle.wot_random.specs.Identities.{body_at, fpr_at}
use Rattle.wot_random.specs.declared.certification.Certification.{Certification}

-- how many words were drawn before the certifications of an index: four for each key, and two for each earlier
-- certification
abbrev pub drawn_before : ℕ → ℕ → ℕ
drawn_before count index = 4 * count + 6 * (index - 1)

-- The first word of a certification chooses its issuer: an index below its own.
abbrev pub issuer_by : ℕ → ℕ → ℕ → ℕ
issuer_by start drawn index = word start drawn % index

-- The second word chooses depth and amount.
abbrev pub trust_by : ℕ → ℕ → List ℕ
trust_by start drawn = trust (word start (drawn + 1) % 4) (60 + word start (drawn + 1) / 4 % 61)

-- the body of the certification (type 0x10) made in this round, from the words after this many
abbrev pub certification_body : ℕ → ℕ → ℕ → ℕ → List ℕ
certification_body start drawn index round =
    signature_body 16 (1100000000 + round) (fpr_at start (issuer_by start drawn index)) (trust_by start drawn)

-- its packet, its number on the user ID of the index, and its issuer
abbrev pub certification_by : ℕ → ℕ → ℕ → ℕ → Certification
certification_by start drawn index round =
    let body = certification_body start drawn index round in
    record {
      packet = written 2 body;
      number = number_of (body_at start index) 1 (user_id index) body;
      issuer = fpr_at start (issuer_by start drawn index);
    }

-- the certifications of an index, in rounds 1, 2 and 3
unfoldable pub certifications_at : ℕ → ℕ → ℕ → List Certification
certifications_at start count index =
    if index == 0 then []
    else map (λ round. certification_by start (drawn_before count index + 2 * (round - 1)) index round) (1 ∷ 2 ∷ 3 ∷ [])
