-- What the hashed subpackets of a signature say (RFC 9580, section 5.2.3).
use Rattle.std.specs.Prelude.{ℕ, Bool, true, false, not, ◌&&◌, ◌==◌, List, drop, slice_index, Some, None, is_some}
use Rattle.std.specs.Prelude.{if◌then◌else◌}
use Rattle.std.specs.List.{list_any}
use Rattle.std.specs.Option.{option_map_or}
use Rattle.std.specs.Int.{w32, from_be_bytes}
use Rattle.wot_types.specs.declared.fpr.Fpr.{Fpr}
use Rattle.wot_types.specs.declared.fpr.Fpr.TheVariants.{V4, V6}
use Rattle.wot_subpacket.specs.Subpacket.{Subpacket}
use Rattle.wot_signature.specs.declared.facts.SigFacts.{SigFacts}
use Rattle.wot_signature.specs.Known.{is_known, last_body_of}

-- four octets, most significant first
abbrev pub number_in : List ℕ → ℕ
number_in body = from_be_bytes w32 body

-- an octet that isn't 0
abbrev pub is_set : ℕ → Bool
is_set octet = not (octet == 0)

-- the version, and the fingerprint after it
abbrev pub issuer_in : List ℕ → Fpr
issuer_in body = if slice_index body 0 == 6 then V6 (drop 1 body) else V4 (drop 1 body)

-- what the last known subpacket of a type says, or a default if there is none
abbrev pub says : {A : Type 0} → ℕ → (List ℕ → A) → A → List Subpacket → A
says kind meaning otherwise subpackets = option_map_or meaning (last_body_of kind subpackets) otherwise

-- an unknown critical subpacket
abbrev pub is_refused : Subpacket → Bool
is_refused subpacket = not (is_known subpacket) && subpacket.critical

-- There is a creation time, and no unknown critical subpacket.
abbrev pub is_sound : List Subpacket → Bool
is_sound subpackets = is_some (last_body_of 2 subpackets) && not (list_any is_refused subpackets)

-- the facts of a signature of this type and hash algorithm with these hashed subpackets
abbrev pub facts_in : ℕ → ℕ → List Subpacket → SigFacts
facts_in kind hash subpackets = record {
  kind = kind;
  hash = hash;
  made = says 2 number_in 0 subpackets;
  lasts = says 3 number_in 0 subpackets;
  key_lasts = says 9 number_in 0 subpackets;
  depth = says 5 (λ body. slice_index body 0) 0 subpackets;
  amount = says 5 (λ body. slice_index body 1) 120 subpackets;
  scoped = is_some (last_body_of 6 subpackets);
  revocable = says 7 (λ body. is_set (slice_index body 0)) true subpackets;
  primary = says 25 (λ body. is_set (slice_index body 0)) false subpackets;
  reason = says 29 (λ body. Some (slice_index body 0)) None subpackets;
  issuer = says 33 (λ body. Some (issuer_in body)) None subpackets;
  sound = is_sound subpackets;
}
