-- The types of packets that matter here (RFC 9580, section 5).
use Rattle.std.specs.Prelude.{ℕ, Bool, ◌&&◌, ◌||◌, ◌==◌, nat_le}

-- a public key
abbrev pub is_key : ℕ → Bool
is_key kind = kind == 6

-- a user ID, a user attribute or a subkey
abbrev pub is_component : ℕ → Bool
is_component kind = kind == 13 || (kind == 17 || kind == 14)

abbrev pub is_signature : ℕ → Bool
is_signature kind = kind == 2

-- unassigned and not critical, or private (section 4.3)
abbrev pub is_unknown : ℕ → Bool
is_unknown kind = nat_le 40 kind && nat_le kind 63

-- a marker, trust or padding
abbrev pub is_passed_over : ℕ → Bool
is_passed_over kind = kind == 10 || (kind == 12 || kind == 21)

-- begins a component, or something unknown that is dropped with what belongs to it
abbrev pub begins_component : ℕ → Bool
begins_component kind = is_component kind || is_unknown kind
