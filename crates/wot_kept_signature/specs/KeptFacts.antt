-- What octets are which facts of a signature. What stands at a known place in its body isn't kept again.
use Rattle.std.specs.Prelude.{◌≡◌, ℕ, Bool, true, false, ◌+◌, ◌≤◌, ◌==◌, nat_lt, if◌then◌else◌, List, [], ◌∷◌, ◌++◌}
use Rattle.std.specs.Prelude.{length, take, drop, slice_index, Option, Some, None, is_some}
use Rattle.std.specs.Int.{w32, from_be_bytes, to_be_bytes}
use Rattle.std.specs.Option.{option_map, option_map_or, unwrap_or}
use Rattle.wot_types.specs.declared.fpr.Fpr.{Fpr}
use Rattle.wot_types.specs.declared.fpr.Fpr.TheVariants.{V4, V6}
use Rattle.wot_types.specs.Fpr.{same_fpr}
use Rattle.wot_signature.specs.declared.facts.SigFacts.{SigFacts}
use Rattle.wot_signature.specs.Signature.{facts_of}
use Rattle.wot_kept_signature.specs.declared.shape.Shape.{Shape}
use Rattle.wot_kept_signature.specs.declared.shape.Shape.TheVariants.{Unparseable, Plain, Full, NotKept}
use Rattle.wot_kept_signature.specs.Signature.{Signature}
use Rattle.wot_kept_signature.specs.KeptOctets.{shape_octet, shape_in, head_size, number_in, body_in}

-- ---- the issuer

-- this many octets from a place on, if the body has them
abbrev pub octets_from : ℕ → ℕ → List ℕ → Option (List ℕ)
octets_from size from body = if nat_lt (length body) (from + size) then None else Some (take size (drop from body))

-- the issuer at a place of a body: the octet of its version, 4 or 6, and its fingerprint (RFC 9580, section 5.2.3.35)
abbrev pub issuer_at : List ℕ → ℕ → Option Fpr
issuer_at body at =
    if slice_index body at == 4 then option_map V4 (octets_from 20 (at + 1) body)
    else if slice_index body at == 6 then option_map V6 (octets_from 32 (at + 1) body)
    else None

-- whether this issuer stands there
abbrev pub stands_at : Fpr → List ℕ → ℕ → Bool
stands_at issuer body at = option_map_or (λ found. same_fpr found issuer) (issuer_at body at) false

-- ---- values in the octets after the mark

-- the number in four octets, most significant first
abbrev pub u32_at : List ℕ → ℕ → ℕ
u32_at kept at = from_be_bytes w32
    (slice_index kept at ∷ slice_index kept (at + 1) ∷ slice_index kept (at + 2) ∷ slice_index kept (at + 3) ∷ [])

abbrev pub flag_at : List ℕ → ℕ → Bool
flag_at kept at = slice_index kept at == 1

-- the octet after a flag that says whether it's there
abbrev pub reason_at : List ℕ → ℕ → Option ℕ
reason_at kept at = if flag_at kept at then Some (slice_index kept (at + 1)) else None

-- ---- the facts that octets are

-- Plain facts: the creation time, the issuer's place in the body, the depth and the amount. The signature type and the
-- hash algorithm are the second and the fourth octet of the body (RFC 9580, section 5.2.3).
abbrev pub plain_facts : List ℕ → List ℕ → SigFacts
plain_facts kept body = record {
  kind = slice_index body 1;
  hash = slice_index body 3;
  made = u32_at kept 1;
  lasts = 0;
  key_lasts = 0;
  depth = slice_index kept 9;
  amount = slice_index kept 10;
  scoped = false;
  revocable = true;
  primary = false;
  reason = None;
  issuer = issuer_at body (u32_at kept 5);
  sound = true;
}

-- all facts: after the plain ones the others, and whether there's an issuer
abbrev pub full_facts : List ℕ → List ℕ → SigFacts
full_facts kept body = record (plain_facts kept body) {
  lasts = u32_at kept 11;
  key_lasts = u32_at kept 15;
  scoped = flag_at kept 19;
  revocable = flag_at kept 20;
  primary = flag_at kept 21;
  sound = flag_at kept 22;
  reason = reason_at kept 23;
  issuer = if flag_at kept 25 then issuer_at body (u32_at kept 5) else None;
}

abbrev pub facts_by : Shape → List ℕ → List ℕ → Option SigFacts
facts_by Unparseable kept body = None
facts_by Plain kept body = Some (plain_facts kept body)
facts_by Full kept body = Some (full_facts kept body)
facts_by NotKept kept body = facts_of body

-- the facts in the octets after the mark
abbrev pub facts_kept : List ℕ → Option SigFacts
facts_kept kept = facts_by (shape_in kept) kept (body_in kept)

-- ---- the octets that facts are

-- They are plain: they say nothing beyond the creation time, the depth, the amount and the issuer.
abbrev pub IsPlain : SigFacts → Type 0
IsPlain facts = (facts.lasts ≡ 0) × (facts.key_lasts ≡ 0) × (facts.scoped ≡ false) × (facts.revocable ≡ true)
    × (facts.primary ≡ false) × (facts.reason ≡ None) × (facts.sound ≡ true)

-- The signature type, the hash algorithm and the issuer stand in this body, the issuer, if it names one, at this place.
abbrev pub StandIn : SigFacts → Bool → ℕ → List ℕ → Type 0
StandIn facts named at body = (slice_index body 1 ≡ facts.kind) × (slice_index body 3 ≡ facts.hash)
    × ((if named then issuer_at body at else None) ≡ facts.issuer)

abbrev pub flag : Bool → ℕ
flag b = if b then 1 else 0

-- no mark, the shape and what plain facts are
abbrev pub head : Shape → SigFacts → ℕ → List ℕ
head shape facts at =
    0 ∷ shape_octet shape ∷ to_be_bytes w32 facts.made ++ to_be_bytes w32 at ++ facts.depth ∷ facts.amount ∷ []

-- what all facts are besides
abbrev pub others : SigFacts → Bool → List ℕ
others facts named =
    to_be_bytes w32 facts.lasts ++ to_be_bytes w32 facts.key_lasts
    ++ flag facts.scoped ∷ flag facts.revocable ∷ flag facts.primary ∷ flag facts.sound
    ∷ flag (is_some facts.reason) ∷ unwrap_or facts.reason 0 ∷ flag named ∷ []

-- ---- all octets

-- the signature that these octets are
abbrev pub signature_in : List ℕ → Signature
signature_in octets =
    record { body = body_in (drop 1 octets); number = number_in (drop 1 octets); admitted = slice_index octets 0 == 1 }

-- They have all parts, and their facts are those of the body.
abbrev pub IsWhole : List ℕ → Type 0
IsWhole octets =
    (head_size (shape_in (drop 1 octets)) + 33 ≤ length octets)
    × (facts_kept (drop 1 octets) ≡ facts_of (body_in (drop 1 octets)))

-- They are the signature with this number and this body, without a mark.
abbrev pub AreNew : List ℕ → List ℕ → List ℕ → Type 0
AreNew number body octets =
    IsWhole octets
    × (signature_in octets ≡ record { body = body; number = record { 0 = number }; admitted = false })
