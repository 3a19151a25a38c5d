-- One subpacket (RFC 9580, section 5.2.3.7).
use Rattle.std.specs.Prelude.{ℕ, ◌%◌, Bool, nat_le, List, slice_index, drop}

-- whether it is critical, its type, and the octets after the type
pub record Subpacket : Type 0 where
  pub critical : Bool
  pub kind : ℕ
  pub body : List ℕ

-- The subpacket of these octets: the first is the type, of which bit 7 marks it critical.
abbrev pub subpacket_of : List ℕ → Subpacket
subpacket_of octets = record {
  critical = nat_le 128 (slice_index octets 0);
  kind = slice_index octets 0 % 128;
  body = drop 1 octets;
}
