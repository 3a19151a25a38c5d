-- Claimed paths, and tables of labels, in a line.
use Rattle.std.specs.Prelude.{◌≡◌, ◌≤◌, ◌+◌, ◌*◌, ℕ, ◌==◌, ◌&&◌, Bool, true, nat_le, if◌then◌else◌}
use Rattle.std.specs.Prelude.{List, [], ◌∷◌, ◌++◌, Option, Some, None, codes, length}
use Rattle.std.specs.Fmt.{decimal}
use Rattle.std.specs.List.{AllByRecursion, flat_map, slice_split}
use Rattle.std.specs.Option.{option_map}
use Rattle.std.specs.Ordering.{is_lt}
use Rattle.std.specs.Str.{bytes_eq}
use Rattle.wot_types.specs.Fpr.{digits_of, fpr_cmp, fpr_of_digits}
use Rattle.wot_fields.specs.Decimal.{decimal_up_to, positive_up_to}
use Rattle.wot_fields.specs.Fields.{◌>>=◌, field_before}
use Rattle.wot_reply_lines.specs.declared.claims.ClaimLine.{ClaimLine}
use Rattle.wot_reply_lines.specs.declared.claims.ClaimStepLine.{ClaimStepLine}
use Rattle.wot_reply_lines.specs.declared.claims.LabelLine.{LabelLine}

-- ---- items

-- what these texts spell, if each spells something
abbrev pub all_of : {A : Type 0} → (List ℕ → Option A) → List (List ℕ) → Option (List A)
all_of read [] = Some []
all_of read (text ∷ texts) = read text >>= (λ item. option_map (λ items. item ∷ items) (all_of read texts))

-- the items that a text spells, cut at each separator
abbrev pub items_of : {A : Type 0} → ℕ → (List ℕ → Option A) → List ℕ → Option (List A)
items_of separator read text = all_of read (slice_split (λ octet. octet == separator) text)

-- items with this octet between them
abbrev pub items_text : {A : Type 0} → ℕ → (A → List ℕ) → List A → List ℕ
items_text separator text [] = []
items_text separator text (item ∷ items) = text item ++ flat_map (λ other. separator ∷ text other) items

-- PATHS and TABLE: `-` for none, or items that are separated by `,`
abbrev pub field_of : {A : Type 0} → (List ℕ → Option A) → List ℕ → Option (List A)
field_of read text = if bytes_eq text (codes "-") then Some [] else items_of 44 read text

abbrev pub field_text : {A : Type 0} → (A → List ℕ) → List A → List ℕ
field_text text [] = codes "-"
field_text text (item ∷ items) = items_text 44 text (item ∷ items)

-- ---- paths: an amount, and steps that each begin with `/`

-- FPR, `.` and the index of the user ID
unfoldable pub step_of : List ℕ → Option ClaimStepLine
step_of text = field_before 46 fpr_of_digits (λ issuer digits.
    option_map (λ place. record { 0 = issuer; 1 = place }) (decimal_up_to 4294967295 digits)) text

abbrev pub step_text : ClaimStepLine → List ℕ
step_text step = digits_of step.0 ++ 46 ∷ decimal step.1

-- an amount, `/` and at most 255 steps with `/` between them
unfoldable pub claim_of : List ℕ → Option ClaimLine
claim_of text = field_before 47 (positive_up_to 255) (λ amount rest. items_of 47 step_of rest >>= (λ steps.
    if nat_le (length steps) 255 then Some (record { 0 = amount; 1 = steps }) else None)) text

abbrev pub claim_text : ClaimLine → List ℕ
claim_text claim = decimal claim.0 ++ 47 ∷ items_text 47 step_text claim.1

-- ---- labels

-- FPR, `=` and a label
unfoldable pub label_of : List ℕ → Option LabelLine
label_of text = field_before 61 fpr_of_digits (λ fpr digits.
    option_map (λ label. record { 0 = fpr; 1 = label }) (positive_up_to 255 digits)) text

abbrev pub label_text : LabelLine → List ℕ
label_text label = digits_of label.0 ++ 61 ∷ decimal label.1

-- each fingerprint is less than the next
abbrev pub is_rising : List LabelLine → Bool
is_rising [] = true
is_rising (label ∷ []) = true
is_rising (label ∷ next ∷ labels) = is_lt (fpr_cmp label.0 next.0) && is_rising (next ∷ labels)

-- TABLE: labels in strictly ascending order of fingerprints
abbrev pub labels_of : List ℕ → Option (List LabelLine)
labels_of text = field_of label_of text >>= (λ labels. if is_rising labels then Some labels else None)

-- ---- both

-- PATHS, a space, TABLE, and what follows
abbrev pub claim_parts : List ClaimLine → List LabelLine → List ℕ → List ℕ
claim_parts claims labels tail = field_text claim_text claims ++ 32 ∷ (field_text label_text labels ++ tail)

-- the largest length of PATHS
abbrev pub most_paths : List ClaimLine → ℕ
most_paths [] = 0
most_paths (claim ∷ claims) = 128 + 128 * length claim.1 + most_paths claims

-- ---- what can be printed

-- a path of 1 to 255 steps, with an amount
abbrev pub IsPathSpelled : ClaimLine → Type 0
IsPathSpelled claim = (1 ≤ claim.0) × (1 ≤ length claim.1) × (length claim.1 ≤ 255)

-- a label of 1 to 255
abbrev pub IsLabelSpelled : LabelLine → Type 0
IsLabelSpelled label = (1 ≤ label.1) × (label.1 ≤ 255)

-- PATHS and TABLE: such paths, and such labels in ascending order
pub record IsClaimSpelled (claims : List ClaimLine) (labels : List LabelLine) : Type 0 where
  pub paths : AllByRecursion IsPathSpelled claims
  pub numbers : AllByRecursion IsLabelSpelled labels
  pub rise : is_rising labels ≡ true
