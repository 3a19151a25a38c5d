-- What holds of a printed item.
use Rattle.std.specs.Prelude.{◌≡◌, ◌≢◌, ◌≤◌, ◌+◌, ◌*◌, ℕ, List, [], ◌∷◌, Option, Some, length}
use Rattle.std.specs.List.{AllByRecursion}
use Rattle.wot_reply_lines.specs.Claims.{claim_of, claim_text, label_of, label_text, step_of, step_text}
use Rattle.wot_reply_lines.specs.declared.claims.ClaimLine.{ClaimLine}
use Rattle.wot_reply_lines.specs.declared.claims.ClaimStepLine.{ClaimStepLine}
use Rattle.wot_reply_lines.specs.declared.claims.LabelLine.{LabelLine}

-- the text contains none of these octets
abbrev pub LacksAll : List ℕ → List ℕ → Type 0
LacksAll octets text = AllByRecursion (λ x. AllByRecursion (λ octet. octet ≢ x) text) octets

-- The item is read back from its text, which contains none of these octets and has at most `most` octets.
pub record IsPrinted {A : Type 0} (read : List ℕ → Option A) (apart : List ℕ) (most : ℕ) (text : List ℕ) (item : A)
    : Type 0 where
  pub back : read text ≡ Some item
  pub free : LacksAll apart text
  pub size : length text ≤ most

-- line feed, space, comma and minus
abbrev pub separators : List ℕ
separators = 10 ∷ 32 ∷ 44 ∷ 45 ∷ []

-- these and a slash
abbrev pub IsStepPrinted : ClaimStepLine → Type 0
IsStepPrinted step = IsPrinted step_of (47 ∷ separators) 96 (step_text step) step

abbrev pub IsLabelPrinted : LabelLine → Type 0
IsLabelPrinted label = IsPrinted label_of separators 96 (label_text label) label

abbrev pub IsClaimPrinted : ClaimLine → Type 0
IsClaimPrinted claim = IsPrinted claim_of separators (64 + 128 * length claim.1) (claim_text claim) claim
