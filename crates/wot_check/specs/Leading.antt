-- The parts of a network that determine proofs of absence and their checks: what leads to the target step by step, and
-- what a check looks at. wot_laws turns both into certificates that a database can find.
use Rattle.std.specs.Prelude.{◌≡◌, ◌≤◌, ◌↔◌, ℕ, List, ◌∷◌, Some}
use Rattle.wot_types.specs.declared.fpr.Fpr.{Fpr}
use Rattle.wot_edge.specs.declared.path.Step.{Step}
use Rattle.wot_edge.specs.Agree.{Agree}
use Rattle.wot_edge.specs.Path.{IsValid, Question, Use}
use Rattle.wot_edge.specs.Record.{Has, Row, rows_into}
use Rattle.wot_check.specs.declared.checking.Checked.{Checked}
use Rattle.wot_check.specs.declared.claimed.ClaimedStep.{ClaimedStep}
use Rattle.wot_check.specs.Absence.{IsChecked, IsLeastTable}
use Rattle.wot_check.specs.Claim.{Claim}
use Rattle.wot_check.specs.Table.{IsTable, Labels, label_at}

-- The set has the issuer of each edge into the target.
abbrev pub HasCertifiersOf : Question → List Fpr → Type 0
HasCertifiersOf q set = (row : Row) → Has (rows_into q.network q.target) row → Has set row.edge.issuer

-- The set has the issuer of each edge into a fingerprint whose depth is at least 1.
abbrev pub HasIntroducersOf : Question → List Fpr → Fpr → Type 0
HasIntroducersOf q set at =
    (row : Row) → Has (rows_into q.network at) row → 1 ≤ row.edge.depth → Has set row.edge.issuer

-- ---- `absence`

-- The set has all that leads to the target: every key that certified it and, with each member, every key that
-- certified the member with a depth of at least 1.
pub record LeadsToTarget (q : Question) (set : List Fpr) : Type 0 where
  pub last : HasCertifiersOf q set
  pub before : (at : Fpr) → Has set at → HasIntroducersOf q set at

-- Two questions agree on the target and on all that leads to it in the first.
pub record ShareLeading (q other : Question) (set : List Fpr) : Type 0 where
  pub leads : LeadsToTarget q set
  pub agree : Agree q other (q.target ∷ set)

-- The set has each issuer on a valid path.
abbrev pub DoPathsLead : Type 0
DoPathsLead =
    (q : Question) (set : List Fpr) → LeadsToTarget q set
    → (steps : List Step) → IsValid q steps → (step : Step) → Has steps step → Has set step.issuer

-- It also has all that leads to the target in the second.
abbrev pub IsLeadingShared : Type 0
IsLeadingShared = (q other : Question) (set : List Fpr) → ShareLeading q other set → LeadsToTarget other set

-- Whatever earlier paths use, both have the same least table.
abbrev pub DoTablesAgree : Type 0
DoTablesAgree =
    (q other : Question) (set : List Fpr) → ShareLeading q other set
    → (used : Use) (table : Labels) → IsTable table → IsLeastTable q used table ↔ IsLeastTable other used table

-- ---- `check`

-- The set has the issuers that a claim names.
abbrev pub HasClaimed : List Fpr → Claim → Type 0
HasClaimed set claim = (step : ClaimedStep) → Has claim.steps step → Has set step.issuer

-- The set has all that a check of the claims and the table looks at: every key that certified the target, the claimed
-- issuers, each fingerprint with a label, and every key that certified one of these with a depth of at least 1.
pub record HasChecked (q : Question) (claims : List Claim) (table : Labels) (set : List Fpr) : Type 0 where
  pub last : HasCertifiersOf q set
  pub claimed : (claim : Claim) → Has claims claim → HasClaimed set claim
  pub labelled : (at : Fpr) (label : ℕ) → label_at table at ≡ Some label → Has set at
  pub before : (at : Fpr) (label : ℕ) → label_at table at ≡ Some label → HasIntroducersOf q set at

-- Two questions agree on the target and on what a check looks at in the first.
pub record ShareChecked (q other : Question) (claims : List Claim) (table : Labels) (set : List Fpr) : Type 0 where
  pub looks : HasChecked q claims table set
  pub agree : Agree q other (q.target ∷ set)

-- The check has the same result for both.
abbrev pub DoChecksAgree : Type 0
DoChecksAgree =
    (q other : Question) (claims : List Claim) (table : Labels) (set : List Fpr) → IsTable table
    → ShareChecked q other claims table set
    → (checked : Checked) → IsChecked q claims table checked ↔ IsChecked other claims table checked
