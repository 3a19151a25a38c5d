-- Which subpackets are known (RFC 9580, section 5.2.3.7 and those after it).
use Rattle.std.specs.Prelude.{ℕ, Bool, ◌&&◌, ◌||◌, ◌==◌, nat_le, if◌then◌else◌, List, [], ◌∷◌, length, slice_index, map}
use Rattle.std.specs.Prelude.{filter, Option, Some, None}
use Rattle.std.specs.List.{list_any}
use Rattle.wot_subpacket.specs.Subpacket.{Subpacket}

-- the known types that have no effect here: exportable certification, preferred ciphers, revocation key, preferred
-- hashes, preferred compression, key server preferences, preferred key server, policy URI, key flags, signer's user ID,
-- features, signature target, embedded signature, intended recipient, preferred AEAD ciphersuites
abbrev pub effectless : List ℕ
effectless = 4 ∷ 11 ∷ 12 ∷ 21 ∷ 22 ∷ 23 ∷ 24 ∷ 26 ∷ 27 ∷ 28 ∷ 30 ∷ 31 ∷ 32 ∷ 35 ∷ 39 ∷ []

-- an issuer fingerprint: the octet 4 and 20 octets, or the octet 6 and 32 octets
abbrev pub is_issuer : List ℕ → Bool
is_issuer body =
    ((length body == 21) && (slice_index body 0 == 4)) || ((length body == 33) && (slice_index body 0 == 6))

-- The type is known, and the body fits it: it has the type's length, and an issuer fingerprint begins with its version.
abbrev pub fits : ℕ → List ℕ → Bool
fits kind body =
    if (kind == 2 || kind == 3) || kind == 9 then length body == 4
    else if kind == 5 then length body == 2
    else if kind == 7 || kind == 25 then length body == 1
    else if kind == 16 then length body == 8
    else if kind == 29 then nat_le 1 (length body)
    else if kind == 33 then is_issuer body
    else kind == 6 || list_any (λ other. kind == other) effectless

abbrev pub is_known : Subpacket → Bool
is_known subpacket = fits subpacket.kind subpacket.body

-- a known subpacket of this type
abbrev pub is_known_of : ℕ → Subpacket → Bool
is_known_of kind subpacket = is_known subpacket && (subpacket.kind == kind)

-- the bodies of the known ones of a type, in order
abbrev pub bodies_of : ℕ → List Subpacket → List (List ℕ)
bodies_of kind subpackets = map (λ (s : Subpacket). s.body) (filter (is_known_of kind) subpackets)

abbrev pub last_of : {A : Type 0} → List A → Option A
last_of [] = None
last_of (x ∷ []) = Some x
last_of (x ∷ y ∷ xs) = last_of (y ∷ xs)

-- the body of the last known one of a type, if there is one
abbrev pub last_body_of : ℕ → List Subpacket → Option (List ℕ)
last_body_of kind subpackets = last_of (bodies_of kind subpackets)
