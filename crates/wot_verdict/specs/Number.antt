-- The number of a signature on a component.
use Rattle.std.specs.Prelude.{◌≡◌, ℕ, List, [], ◌∷◌, ◌++◌, length, codes}
use Rattle.std.specs.Int.{w32, to_be_bytes}
use Rattle.sha2.specs.Hashers.{Holds256}
use Rattle.sha2.specs.Sha256.{sha256}
use Rattle.wot_types.specs.declared.number.SigNumber.{SigNumber}
use Rattle.wot_verdict.specs.declared.number.Numbering.{Numbering}

-- octets after their length in four octets
abbrev pub field : List ℕ → List ℕ
field octets = to_be_bytes w32 (length octets) ++ octets

-- Five fields: the text `wot1`, the key's body, one octet for the kind of component, the body of the component (empty
-- for a signature on the key), and the signature's body.
abbrev pub numbered_text : List ℕ → ℕ → List ℕ → List ℕ → List ℕ
numbered_text key kind component signature =
    field (codes "wot1") ++ field key ++ field (kind ∷ []) ++ field component ++ field signature

-- the number of a signature: the SHA-256 of these fields
unfoldable pub number_of : List ℕ → ℕ → List ℕ → List ℕ → SigNumber
number_of key kind component signature = record { 0 = sha256 (numbered_text key kind component signature) }

-- The numbering has digested the first four fields, which the signatures on one component share.
unfoldable pub IsBegunOn : List ℕ → ℕ → List ℕ → Numbering → Type 0
IsBegunOn key kind component numbering =
    Holds256 numbering.hasher (field (codes "wot1") ++ field key ++ field (kind ∷ []) ++ field component)

-- the number of this signature on the component that the numbering was made for
abbrev pub IsNumberBy : Numbering → List ℕ → SigNumber → Type 0
IsNumberBy numbering signature number =
    (key : List ℕ) (kind : ℕ) (component : List ℕ) → IsBegunOn key kind component numbering
    → number ≡ number_of key kind component signature
