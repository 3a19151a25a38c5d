-- What a signature body of version 4 says, in words that know of no other version (RFC 4880, section 5.2.3), and what
-- it said before there was a version 6.
use Rattle.std.specs.Prelude.{◌≡◌, ℕ, Bool, true, false, not, ◌&&◌, ◌||◌, ◌==◌, nat_le, if◌then◌else◌}
use Rattle.std.specs.Prelude.{List, [], ◌∷◌, drop, filter, length, map, slice_index, Option, Some, None, is_some}
use Rattle.std.specs.List.{AllByRecursion, list_any}
use Rattle.std.specs.Option.{option_and_then, option_map, option_map_or, option_or}
use Rattle.wot_types.specs.declared.fpr.Fpr.TheVariants.{V4}
use Rattle.wot_subpacket.specs.Subpacket.{Subpacket}
use Rattle.wot_subpacket.specs.Area.{list_of, subpackets_of}
use Rattle.wot_signature.specs.declared.facts.SigFacts.{SigFacts}
use Rattle.wot_signature.specs.Facts.{is_set, number_in}
use Rattle.wot_signature.specs.Body.{BodyParts, areas, ends_v4, short_field_at}
use Rattle.wot_signature.specs.Known.{effectless, last_of}
use Rattle.wot_signature.specs.Signature.{ReadBody, trimmed, with_hashed_list}

-- the version, the kind, the key algorithm, the hash algorithm, and two areas that two octets each count
abbrev pub parts_v4 : List ℕ → Option BodyParts
parts_v4 (version ∷ kind ∷ algorithm ∷ hash ∷ rest) = areas short_field_at ends_v4 kind hash rest
parts_v4 _ = None

abbrev pub read_v4 : List ℕ → Option ReadBody
read_v4 body = option_and_then (λ parts. with_hashed_list parts (subpackets_of parts.hashed)) (parts_v4 body)

-- ---- which subpackets were known

-- The type was known, and the body fitted it: an issuer fingerprint was the octet 4 and 20 octets.
abbrev pub fitted : ℕ → List ℕ → Bool
fitted kind body =
    if (kind == 2 || kind == 3) || kind == 9 then length body == 4
    else if kind == 5 then length body == 2
    else if kind == 7 || kind == 25 then length body == 1
    else if kind == 16 then length body == 8
    else if kind == 29 then nat_le 1 (length body)
    else if kind == 33 then (length body == 21) && (slice_index body 0 == 4)
    else kind == 6 || list_any (λ other. kind == other) effectless

abbrev pub was_known : Subpacket → Bool
was_known s = fitted s.kind s.body

-- the bodies of the known ones of a type, in order
abbrev pub bodies_v4 : ℕ → List Subpacket → List (List ℕ)
bodies_v4 kind subpackets =
    map (λ (s : Subpacket). s.body) (filter (λ (s : Subpacket). was_known s && (s.kind == kind)) subpackets)

-- what the last known one of a type said, or a default if there was none
abbrev pub said : {A : Type 0} → ℕ → (List ℕ → A) → A → List Subpacket → A
said kind meaning otherwise subpackets = option_map_or meaning (last_of (bodies_v4 kind subpackets)) otherwise

-- There was a creation time, and no unknown critical subpacket.
abbrev pub was_sound : List Subpacket → Bool
was_sound subpackets =
    is_some (last_of (bodies_v4 2 subpackets))
    && not (list_any (λ (s : Subpacket). not (was_known s) && s.critical) subpackets)

-- ---- what a body said

abbrev pub facts_said : ReadBody → SigFacts
facts_said r = record {
  kind = r.kind;
  hash = r.hash;
  made = said 2 number_in 0 r.hashed;
  lasts = said 3 number_in 0 r.hashed;
  key_lasts = said 9 number_in 0 r.hashed;
  depth = said 5 (λ body. slice_index body 0) 0 r.hashed;
  amount = said 5 (λ body. slice_index body 1) 120 r.hashed;
  scoped = is_some (last_of (bodies_v4 6 r.hashed));
  revocable = said 7 (λ body. is_set (slice_index body 0)) true r.hashed;
  primary = said 25 (λ body. is_set (slice_index body 0)) false r.hashed;
  reason = said 29 (λ body. Some (slice_index body 0)) None r.hashed;
  issuer = said 33 (λ body. Some (V4 (drop 1 body))) None r.hashed;
  sound = was_sound r.hashed;
}

abbrev pub facts_v4 : List ℕ → Option SigFacts
facts_v4 body = option_map facts_said (read_v4 body)

abbrev pub scopes_v4 : List ℕ → List (List ℕ)
scopes_v4 body = option_map_or (λ (r : ReadBody). map trimmed (bodies_v4 6 r.hashed)) (read_v4 body) []

abbrev pub hint_v4 : List ℕ → Option (List ℕ)
hint_v4 body = option_and_then (λ (r : ReadBody). option_or (last_of (bodies_v4 16 r.hashed))
    (last_of (bodies_v4 16 (list_of r.unhashed)))) (read_v4 body)

-- ---- the one difference

-- an issuer fingerprint of version 6, which was unknown
abbrev pub names_v6 : Subpacket → Bool
names_v6 s = (s.kind == 33) && ((length s.body == 33) && (slice_index s.body 0 == 6))

-- None of its hashed subpackets is one.
abbrev pub NamesNoV6 : List ℕ → Type 0
NamesNoV6 body =
    (r : ReadBody) → read_v4 body ≡ Some r → AllByRecursion (λ (s : Subpacket). names_v6 s ≡ false) r.hashed
