-- The key of each index, with its one user ID and its direct key signature.
use Rattle.std.specs.Prelude.{◌≡◌, ℕ, ◌+◌, ◌*◌, List, [], ◌∷◌, length, slice_get, Some}
use Rattle.wot_types.specs.declared.fpr.Fpr.{Fpr}
use Rattle.wot_types.specs.declared.number.SigNumber.{SigNumber}
use Rattle.wot_key.specs.Key.{fpr_of}
use Rattle.wot_packet.specs.Writing.{written_all}
use Rattle.wot_verdict.specs.Number.{number_of}
use Rattle.wot_random.specs.Words.{word}
use Rattle.wot_random.specs.Bodies.{created, key_body, user_id, signature_body}
use Rattle.wot_random.specs.declared.identity.Identity.{Identity}

-- the body of the key of an index: each takes four words
abbrev pub body_at : ℕ → ℕ → List ℕ
body_at start index =
    let first = 4 * index in
    key_body (created index) (word start first) (word start (first + 1)) (word start (first + 2))
    (word start (first + 3))

-- its fingerprint
abbrev pub fpr_at : ℕ → ℕ → Fpr
fpr_at start index = fpr_of (body_at start index)

-- its direct key signature (type 0x1F), created with it and by it
abbrev pub direct_at : ℕ → ℕ → List ℕ
direct_at start index = signature_body 31 (created index) (fpr_at start index) []

-- the number of that signature, which is on the key
abbrev pub direct_number_at : ℕ → ℕ → SigNumber
direct_number_at start index = number_of (body_at start index) 0 [] (direct_at start index)

-- its packets without certifications: the key, the direct key signature, the user ID
abbrev pub packets_at : ℕ → ℕ → List ℕ
packets_at start index = written_all ((6, body_at start index) ∷ (2, direct_at start index) ∷ (13, user_id index) ∷ [])

-- The code holds these of an index.
pub record IsIdentity (start index : ℕ) (identity : Identity) : Type 0 where
  pub body : identity.body ≡ body_at start index
  pub fpr : identity.fpr ≡ fpr_at start index
  pub uid : identity.uid ≡ user_id index
  pub direct : identity.direct ≡ direct_number_at start index
  pub packets : identity.packets ≡ packets_at start index

-- It holds those of all indices below a count.
pub record AreIdentities (start count : ℕ) (identities : List Identity) : Type 0 where
  pub many : length identities ≡ count
  pub each : (index : ℕ) (identity : Identity) → slice_get identities index ≡ Some identity
      → IsIdentity start index identity
