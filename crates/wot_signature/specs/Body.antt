-- The parts of a signature body (RFC 9580, section 5.2.3).
use Rattle.std.specs.Prelude.{ℕ, Bool, false, nat_lt, nat_le, ◌==◌, if◌then◌else◌, List, [], ◌∷◌, length, take, drop}
use Rattle.std.specs.Prelude.{Option, Some, None}
use Rattle.std.specs.Int.{w16, w32, from_be_bytes}

-- the signature type, the number of the hash algorithm, and the two areas
pub record BodyParts : Type 0 where
  pub kind : ℕ
  pub hash : ℕ
  pub hashed : List ℕ
  pub unhashed : List ℕ

-- this many octets, and what follows them
abbrev pub octets_at : ℕ → List ℕ → Option (List ℕ × List ℕ)
octets_at size octets = if nat_lt (length octets) size then None else Some (take size octets, drop size octets)

-- a field after its length in two octets, and what follows it
abbrev pub short_field_at : List ℕ → Option (List ℕ × List ℕ)
short_field_at (high ∷ low ∷ rest) = octets_at (from_be_bytes w16 (high ∷ low ∷ [])) rest
short_field_at _ = None

-- a field after its length in four octets, and what follows it
abbrev pub long_field_at : List ℕ → Option (List ℕ × List ℕ)
long_field_at (a ∷ b ∷ c ∷ d ∷ rest) = octets_at (from_be_bytes w32 (a ∷ b ∷ c ∷ d ∷ [])) rest
long_field_at _ = None

-- After the areas of version 4 come two octets of the hash, and the material, if any.
abbrev pub ends_v4 : List ℕ → Bool
ends_v4 rest = nat_le 2 (length rest)

-- After the areas of version 6 come two octets of the hash, an octet with the length of the salt, the salt, and the
-- material, if any.
abbrev pub ends_v6 : List ℕ → Bool
ends_v6 (high ∷ low ∷ size ∷ rest) = nat_le size (length rest)
ends_v6 _ = false

-- a first reading, and a second one that uses its result
infixl 10 ◌>>=◌
abbrev pub ◌>>=◌ : {A B : Type 0} → Option A → (A → Option B) → Option B
Some x >>= f = f x
None >>= f = None

-- The hashed and the unhashed area, each in such a field, if what has to follow them does.
abbrev pub areas : (List ℕ → Option (List ℕ × List ℕ)) → (List ℕ → Bool) → ℕ → ℕ → List ℕ → Option BodyParts
areas field_at ends kind hash octets = do
  hashed ← field_at octets
  unhashed ← field_at hashed.1
  if ends unhashed.1 then Some (record { kind = kind; hash = hash; hashed = hashed.0; unhashed = unhashed.0 }) else None

-- The parts of a body: the version, the signature type, the key algorithm, the hash algorithm, and the areas of its
-- version. None if a part is missing or the version is neither 4 nor 6. The salt's length isn't compared with the hash.
abbrev pub parts_of : List ℕ → Option BodyParts
parts_of (version ∷ kind ∷ algorithm ∷ hash ∷ rest) =
    if version == 4 then areas short_field_at ends_v4 kind hash rest
    else if version == 6 then areas long_field_at ends_v6 kind hash rest
    else None
parts_of _ = None
