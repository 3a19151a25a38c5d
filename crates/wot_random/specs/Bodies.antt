-- The bodies of packets (RFC 9580, sections 5.2.3, 5.5.2 and 5.11).
use Rattle.std.specs.Prelude.{ℕ, ◌+◌, List, [], ◌∷◌, ◌++◌, length, slice_index, codes}
use Rattle.std.specs.Int.{w16, w32, w64, to_be_bytes}
use Rattle.std.specs.Fmt.{decimal}
use Rattle.wot_types.specs.Fpr.{octets_in, octets_of, version_of}
use Rattle.wot_types.specs.declared.fpr.Fpr.{Fpr}

-- when the key of an index was made
abbrev pub created : ℕ → ℕ
created index = 1000000000 + index

-- a version 4 key of algorithm 27 that was created then, with four words as its key material
unfoldable pub key_body : ℕ → ℕ → ℕ → ℕ → ℕ → List ℕ
key_body made a b c d =
    4 ∷ to_be_bytes w32 made ++ 27 ∷ to_be_bytes w64 a ++ to_be_bytes w64 b ++ to_be_bytes w64 c ++ to_be_bytes w64 d

-- the key body from four consecutive words
abbrev pub key_body_with : ℕ → List ℕ → List ℕ
key_body_with made material =
    key_body made (slice_index material 0) (slice_index material 1) (slice_index material 2) (slice_index material 3)

-- the user ID of an index
unfoldable pub user_id : ℕ → List ℕ
user_id index = codes "user " ++ decimal index ++ codes " <u" ++ decimal index ++ codes "@example.org>"

-- when a signature was created and by whom, and then these subpackets
unfoldable pub hashed_area : ℕ → Fpr → List ℕ → List ℕ
hashed_area made issuer extra =
    5 ∷ 2 ∷ to_be_bytes w32 made ++ (octets_in issuer + 2) ∷ 33 ∷ version_of issuer ∷ octets_of issuer ++ extra

-- a version 4 signature of this type with a hashed area, and nothing else: algorithms 27 and 8, no unhashed area, two
-- octets of the hash, no cryptographic material
unfoldable pub signature_over : ℕ → List ℕ → List ℕ
signature_over kind area = 4 ∷ kind ∷ 27 ∷ 8 ∷ to_be_bytes w16 (length area) ++ area ++ 0 ∷ 0 ∷ 0 ∷ 0 ∷ []

abbrev pub signature_body : ℕ → ℕ → Fpr → List ℕ → List ℕ
signature_body kind made issuer extra = signature_over kind (hashed_area made issuer extra)

-- the trust subpacket: depth and amount (RFC 9580, section 5.2.3.21)
abbrev pub trust : ℕ → ℕ → List ℕ
trust depth amount = 3 ∷ 5 ∷ depth ∷ amount ∷ []
