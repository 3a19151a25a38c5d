-- What a signature in a certificate is.
use Rattle.std.specs.Prelude.{◌≡◌, ℕ, Bool, false, List, Option}
use Rattle.wot_types.specs.declared.number.SigNumber.{SigNumber}
use Rattle.wot_signature.specs.declared.facts.SigFacts.{SigFacts}
use Rattle.wot_signature.specs.Signature.{facts_of}
use Rattle.wot_verdict.specs.Number.{IsBegunOn, number_of}
use Rattle.wot_verdict.specs.declared.number.Numbering.{Numbering}

-- its body, the number that its body has at its place, and whether the policy admitted it
pub record Signature : Type 0 where
  pub body : List ℕ
  pub number : SigNumber
  pub admitted : Bool

-- what a signature says; nothing if it can't be parsed
abbrev pub said_by : Signature → Option SigFacts
said_by s = facts_of s.body

-- the signature with this body at its place, without a mark
abbrev pub fresh : List ℕ → ℕ → List ℕ → List ℕ → Signature
fresh key kind component body = record { body = body; number = number_of key kind component body; admitted = false }

-- the signature with this body on the component that the numbering was made for, without a mark
abbrev pub IsFreshBy : Numbering → List ℕ → Signature → Type 0
IsFreshBy numbering body s =
    (key : List ℕ) (kind : ℕ) (component : List ℕ) → IsBegunOn key kind component numbering
    → s ≡ fresh key kind component body
