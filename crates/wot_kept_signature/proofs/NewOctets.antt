-- The octets of a new signature have all parts, and are that signature.
use Rattle.std.proofs.Common.{◌≡◌, ℕ, ◌<◌, ◌≤◌, ◌^◌, Bool, true, false, ◌==◌, if◌then◌else◌}
use Rattle.std.proofs.Common.{List, ◌∷◌, ◌++◌, length, take, drop, Option, Some, None, is_some}
use Rattle.std.proofs.Common.{refl, sym, ap, ◌∙◌, arith, length-append}
use Rattle.std.specs.Option.{unwrap_or}
use Rattle.std.proofs.lemmas.List.{take_at, drop_at}
use Rattle.std.proofs.lemmas.Nat.{from_be_bytes-to_be_bytes_4}
use Rattle.wot_signature.specs.declared.facts.SigFacts.{SigFacts}
use Rattle.wot_signature.specs.Signature.{facts_of}
use Rattle.wot_kept_signature.specs.Signature.{Signature}
use Rattle.wot_kept_signature.specs.KeptFacts.{IsPlain, StandIn, plain_facts, full_facts, issuer_at}
use Rattle.wot_kept_signature.specs.KeptFacts.{head, others, flag, AreNew}
use Rattle.wot_kept_signature.specs.declared.shape.Shape.TheVariants.{Plain, Full}

-- ---- a number and a body after a head

abbrev signature : List ℕ → List ℕ → Signature
signature number body = record { body = body; number = record { 0 = number }; admitted = false }

-- The parts after a head: that they have room, what is said of the body, and what signature they are.
stand_there : (number body : List ℕ) (F : List ℕ → Option SigFacts) → length number ≡ 32 → F body ≡ facts_of body
    → (32 ≤ length (number ++ body)) × (F (drop 32 (number ++ body)) ≡ facts_of (drop 32 (number ++ body)))
    × (signature (take 32 (number ++ body)) (drop 32 (number ++ body)) ≡ signature number body)
stand_there number body F e said =
    let there = drop_at number body 32 e in
    let facts = ap F there ∙ said ∙ ap facts_of (sym there) in
    (omega (arith, length-append number body), facts, λ i. signature (take_at number body 32 e i) (there i))

-- ---- the shapes

pub unparseable : (number body : List ℕ) → length number ≡ 32 → facts_of body ≡ None
    → AreNew number body (0 ∷ 0 ∷ number ++ body)
unparseable number body e none =
    let parts = stand_there number body (λ b. None) e (sym none) in
    ((omega (arith, parts.0), parts.1), parts.2)

pub not_kept : (number body : List ℕ) → length number ≡ 32 → AreNew number body (0 ∷ 3 ∷ number ++ body)
not_kept number body e =
    let parts = stand_there number body facts_of e refl in
    ((omega (arith, parts.0), parts.1), parts.2)

plain_said : (facts : SigFacts) (at : ℕ) (rest body : List ℕ) → facts.made < 2 ^ 32 → at < 2 ^ 32 → IsPlain facts
    → StandIn facts true at body
    → plain_facts (drop 1 (head Plain facts at ++ rest)) body ≡ facts
plain_said facts at rest body made_fits at_fits plain stand i = record {
  kind = stand.0 i;
  hash = stand.1 i;
  made = from_be_bytes-to_be_bytes_4 facts.made made_fits i;
  lasts = sym plain.0 i;
  key_lasts = sym plain.1 i;
  depth = facts.depth;
  amount = facts.amount;
  scoped = sym plain.2 i;
  revocable = sym plain.3 i;
  primary = sym plain.4 i;
  reason = sym plain.5 i;
  issuer = (ap (issuer_at body) (from_be_bytes-to_be_bytes_4 at at_fits) ∙ stand.2) i;
  sound = sym plain.6 i;
}

pub plain_kept : (facts : SigFacts) (at : ℕ) (number body : List ℕ) → length number ≡ 32
    → facts.made < 2 ^ 32 → at < 2 ^ 32 → IsPlain facts → StandIn facts true at body → facts_of body ≡ Some facts
    → AreNew number body (head Plain facts at ++ number ++ body)
plain_kept facts at number body e made_fits at_fits plain stand is =
    let kept = drop 1 (head Plain facts at ++ number ++ body) in
    let said = plain_said facts at (number ++ body) body made_fits at_fits plain stand in
    let parts = stand_there number body (λ b. Some (plain_facts kept b)) e (ap Some said ∙ sym is) in
    ((omega (arith, parts.0), parts.1), parts.2)

flag_back : (b : Bool) → (flag b == 1) ≡ b
flag_back true = refl
flag_back false = refl

reason_back : (r : Option ℕ) → (if flag (is_some r) == 1 then Some (unwrap_or r 0) else None) ≡ r
reason_back None = refl
reason_back (Some code) = refl

named_back : (body : List ℕ) (b named : Bool) (n at : ℕ) → b ≡ named → n ≡ at
    → (if b then issuer_at body n else None) ≡ (if named then issuer_at body at else None)
named_back body b named n at is same i = if is i then issuer_at body (same i) else None

full_said : (facts : SigFacts) (named : Bool) (at : ℕ) (rest body : List ℕ) → facts.made < 2 ^ 32 → at < 2 ^ 32
    → facts.lasts < 2 ^ 32 → facts.key_lasts < 2 ^ 32 → StandIn facts named at body
    → full_facts (drop 1 (head Full facts at ++ others facts named ++ rest)) body ≡ facts
full_said facts named at rest body made_fits at_fits lasts_fits key_fits stand i = record {
  kind = stand.0 i;
  hash = stand.1 i;
  made = from_be_bytes-to_be_bytes_4 facts.made made_fits i;
  lasts = from_be_bytes-to_be_bytes_4 facts.lasts lasts_fits i;
  key_lasts = from_be_bytes-to_be_bytes_4 facts.key_lasts key_fits i;
  depth = facts.depth;
  amount = facts.amount;
  scoped = flag_back facts.scoped i;
  revocable = flag_back facts.revocable i;
  primary = flag_back facts.primary i;
  reason = reason_back facts.reason i;
  issuer =
      (named_back body _ named _ at (flag_back named) (from_be_bytes-to_be_bytes_4 at at_fits) ∙ stand.2) i;
  sound = flag_back facts.sound i;
}

pub full_kept : (facts : SigFacts) (named : Bool) (at : ℕ) (number body : List ℕ) → length number ≡ 32
    → facts.made < 2 ^ 32 → at < 2 ^ 32 → facts.lasts < 2 ^ 32 → facts.key_lasts < 2 ^ 32
    → StandIn facts named at body → facts_of body ≡ Some facts
    → AreNew number body (head Full facts at ++ others facts named ++ number ++ body)
full_kept facts named at number body e made_fits at_fits lasts_fits key_fits stand is =
    let kept = drop 1 (head Full facts at ++ others facts named ++ number ++ body) in
    let said = full_said facts named at (number ++ body) body made_fits at_fits lasts_fits key_fits stand in
    let parts = stand_there number body (λ b. Some (full_facts kept b)) e (ap Some said ∙ sym is) in
    ((omega (arith, parts.0), parts.1), parts.2)
