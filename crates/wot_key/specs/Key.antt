-- Public keys of version 4 and of version 6 (RFC 9580, sections 5.5.2 and 5.5.4).
use Rattle.std.specs.Prelude.{ℕ, ◌+◌, ◌^◌, ◌==◌, ◌&&◌, ◌||◌, nat_le, nat_lt, Bool, if◌then◌else◌, List, ◌∷◌, ◌++◌}
use Rattle.std.specs.Prelude.{length, take, drop, slice_index, Option, Some, None}
use Rattle.std.specs.Int.{w16, w32, to_be_bytes, from_be_bytes}
use Rattle.sha1.specs.Sha1.{sha1}
use Rattle.sha2.specs.Sha256.{sha256}
use Rattle.wot_types.specs.declared.fpr.Fpr.{Fpr}
use Rattle.wot_types.specs.declared.fpr.Fpr.TheVariants.{V4, V6}
use Rattle.wot_key.specs.declared.key.Key.{Key}

-- the version of a key: the first octet of its body
abbrev pub version_in : List ℕ → ℕ
version_in body = slice_index body 0

-- A body of version 4: the octet 4, four octets of creation time, an algorithm octet and material, 65,535 octets at
-- most.
abbrev pub is_v4 : List ℕ → Bool
is_v4 body = nat_le 6 (length body) && nat_le (length body) 65535 && (version_in body == 4)

-- A body of version 6: the octet 6, four octets of creation time, an algorithm octet, four octets with the number of
-- octets of material, and that many octets; fewer than 2^32 octets in all.
abbrev pub is_v6 : List ℕ → Bool
is_v6 body =
    nat_le 10 (length body) && nat_lt (length body) (2 ^ 32) && (version_in body == 6)
    && (from_be_bytes w32 (take 4 (drop 6 body)) + 10 == length body)

abbrev pub is_readable : List ℕ → Bool
is_readable body = is_v4 body || is_v6 body

-- when a key was created, in seconds since 1970: four octets after the first (RFC 9580, section 5.5.2)
abbrev pub created_in : List ℕ → ℕ
created_in body = from_be_bytes w32 (take 4 (drop 1 body))

-- what a body that can be parsed says
abbrev pub key_of : List ℕ → Option Key
key_of body =
    if is_readable body
    then Some (record { version = version_in body; created = created_in body; algorithm = slice_index body 5 })
    else None

-- a version 4 fingerprint: the digest of the octet 0x99, the two octets of the length, and the body
unfoldable pub v4_digest : List ℕ → List ℕ
v4_digest body = sha1 (153 ∷ to_be_bytes w16 (length body) ++ body)

-- a version 6 fingerprint: the digest of the octet 0x9B, the four octets of the length, and the body
unfoldable pub v6_digest : List ℕ → List ℕ
v6_digest body = sha256 (155 ∷ to_be_bytes w32 (length body) ++ body)

-- the fingerprint of the key with this body
unfoldable pub fpr_of : List ℕ → Fpr
fpr_of body = if version_in body == 6 then V6 (v6_digest body) else V4 (v4_digest body)

-- the fingerprint, if the body can be parsed
abbrev pub fingerprint_of : List ℕ → Option Fpr
fingerprint_of body = if is_readable body then Some (fpr_of body) else None

-- the key ID of a fingerprint: the last eight octets in version 4, the first eight in version 6
abbrev pub key_id_of : Fpr → List ℕ
key_id_of (V4 octets) = drop 12 octets
key_id_of (V6 octets) = take 8 octets
