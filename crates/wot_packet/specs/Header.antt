-- Headers of packets (RFC 9580, section 4.2): which octets are one, of which type and body length.
use Rattle.std.specs.Prelude.{◌≡◌, ◌⊎◌, ℕ, ◌+◌, ◌-◌, ◌*◌, ◌<◌, ◌≤◌, List, [], ◌∷◌}
use Rattle.std.specs.Int.{w16, w32, from_be_bytes}

-- the octets of a length in the OpenPGP format (section 4.2.1)
abbrev pub IsOpenpgpLength : List ℕ → ℕ → Type 0
IsOpenpgpLength (a ∷ []) n = (a < 192) × (n ≡ a)
IsOpenpgpLength (a ∷ b ∷ []) n = (192 ≤ a) × (a < 224) × (n ≡ (a - 192) * 256 + b + 192)
IsOpenpgpLength (a ∷ b ∷ c ∷ d ∷ e ∷ []) n = (a ≡ 255) × (n ≡ from_be_bytes w32 (b ∷ c ∷ d ∷ e ∷ []))
IsOpenpgpLength _ n = ⊥

-- the octets of a length in the legacy format, of this length type (section 4.2.2)
abbrev pub IsLegacyLength : ℕ → List ℕ → ℕ → Type 0
IsLegacyLength type (a ∷ []) n = (type ≡ 0) × (n ≡ a)
IsLegacyLength type (a ∷ b ∷ []) n = (type ≡ 1) × (n ≡ from_be_bytes w16 (a ∷ b ∷ []))
IsLegacyLength type (a ∷ b ∷ c ∷ d ∷ []) n = (type ≡ 2) × (n ≡ from_be_bytes w32 (a ∷ b ∷ c ∷ d ∷ []))
IsLegacyLength type _ n = ⊥

-- In the OpenPGP format bits 7 and 6 of the first octet are set, and bits 5 to 0 are the packet's type.
abbrev pub IsOpenpgpHeader : List ℕ → ℕ → ℕ → Type 0
IsOpenpgpHeader [] kind n = ⊥
IsOpenpgpHeader (tag ∷ octets) kind n = (kind < 64) × (tag ≡ 192 + kind) × IsOpenpgpLength octets n

-- In the legacy format bit 7 alone is set, bits 5 to 2 are the packet's type, and bits 1 and 0 the length type.
abbrev pub IsLegacyHeader : List ℕ → ℕ → ℕ → Type 0
IsLegacyHeader [] kind n = ⊥
IsLegacyHeader (tag ∷ octets) kind n =
    (type : ℕ) × (kind < 16) × (tag ≡ 128 + 4 * kind + type) × IsLegacyLength type octets n

-- These octets are the header of a packet of this type, with a body of this length.
abbrev pub IsHeader : List ℕ → ℕ → ℕ → Type 0
IsHeader octets kind n = IsOpenpgpHeader octets kind n ⊎ IsLegacyHeader octets kind n
