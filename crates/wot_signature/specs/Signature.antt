-- What a signature body says (RFC 9580, section 5.2). Facts come from the hashed area only.
use Rattle.std.specs.Prelude.{ℕ, Bool, ◌==◌, ◌&&◌, ◌-◌, nat_le, if◌then◌else◌, List, [], length, take, map, slice_index}
use Rattle.std.specs.Prelude.{Option, Some, None, Result, Ok, Err, is_some}
use Rattle.std.specs.Option.{option_map_or, option_and_then, option_map, option_or}
use Rattle.wot_subpacket.specs.declared.fault.AreaFault.{AreaFault}
use Rattle.wot_subpacket.specs.Subpacket.{Subpacket}
use Rattle.wot_subpacket.specs.Area.{subpackets_of, list_of}
use Rattle.wot_signature.specs.declared.facts.SigFacts.{SigFacts}
use Rattle.wot_signature.specs.Known.{bodies_of, last_body_of}
use Rattle.wot_signature.specs.Facts.{facts_in}
use Rattle.wot_signature.specs.Body.{BodyParts, parts_of}

-- a body that can be parsed: its signature type, the number of its hash algorithm, its hashed subpackets and the octets
-- of its unhashed area
pub record ReadBody : Type 0 where
  pub kind : ℕ
  pub hash : ℕ
  pub hashed : List Subpacket
  pub unhashed : List ℕ

abbrev pub with_hashed_list : BodyParts → Result (List Subpacket) AreaFault → Option ReadBody
with_hashed_list parts (Ok subpackets) =
    Some (record { kind = parts.kind; hash = parts.hash; hashed = subpackets; unhashed = parts.unhashed })
with_hashed_list parts (Err fault) = None

-- A body can be parsed if it has all parts and the hashed area is a list of subpackets.
unfoldable pub read_body_of : List ℕ → Option ReadBody
read_body_of body = option_and_then (λ parts. with_hashed_list parts (subpackets_of parts.hashed)) (parts_of body)

unfoldable pub is_readable : List ℕ → Bool
is_readable body = is_some (read_body_of body)

-- the facts of a signature body; none if it can't be parsed
unfoldable pub facts_of : List ℕ → Option SigFacts
facts_of body = option_map (λ (r : ReadBody). facts_in r.kind r.hash r.hashed) (read_body_of body)

-- without one zero octet at the end
abbrev pub trimmed : List ℕ → List ℕ
trimmed text =
    if nat_le 1 (length text) && (slice_index text (length text - 1) == 0) then take (length text - 1) text else text

-- the texts of regular expressions among the subpackets, in order
abbrev pub texts_in : List Subpacket → List (List ℕ)
texts_in subpackets = map trimmed (bodies_of 6 subpackets)

-- the texts of a signature's regular expressions, in order; none for a body that can't be parsed
unfoldable pub scopes_of : List ℕ → List (List ℕ)
scopes_of body = option_map_or (λ (r : ReadBody). texts_in r.hashed) (read_body_of body) []

-- the last issuer key ID of the hashed area, or else of the unhashed one if that is a list of subpackets
abbrev pub hint_in : ReadBody → Option (List ℕ)
hint_in r = option_or (last_body_of 16 r.hashed) (last_body_of 16 (list_of r.unhashed))

-- the key ID that a signature body hints at; none for a body that can't be parsed
unfoldable pub hint_of : List ℕ → Option (List ℕ)
hint_of body = option_and_then hint_in (read_body_of body)
