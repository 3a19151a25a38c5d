-- From claimed steps to steps.
use Rattle.std.specs.Prelude.{◌≡◌, ◌≤◌, ◌&&◌, nat_eq, ℕ, Bool, true, List, [], ◌∷◌, length, Option, Some, None, Vec}
use Rattle.std.specs.declared.alloc.Global.{Global}
use Rattle.wot_types.specs.declared.fpr.Fpr.{Fpr}
use Rattle.wot_types.specs.Fpr.{same_fpr}
use Rattle.wot_edge.specs.declared.path.Path.{Path}
use Rattle.wot_edge.specs.declared.path.Step.{Step}
use Rattle.wot_edge.specs.declared.edge.EdgeFacts.{EdgeFacts}
use Rattle.wot_edge.specs.Record.{Row, Has, IsRecord, rows_into}
use Rattle.wot_edge.specs.Path.{Question, Use, step_of, use_of}
use Rattle.wot_check.specs.declared.claimed.ClaimedStep.{ClaimedStep}
use Rattle.wot_edge.specs.Sums.{Sums, use_in}
use Rattle.wot_check.specs.Absence.{is_in_order}
use Rattle.wot_check.specs.Claim.{Claim, Shows, EachShows, AreGood, claimed_step}
use Rattle.wot_edge.specs.Demand.{demand_of}
use Rattle.wot_check.specs.Demand.{may_stand}

-- the start of claimed steps: the first issuer, or the target itself
abbrev pub begin_of : Fpr → List ClaimedStep → Fpr
begin_of target [] = target
begin_of target (item ∷ later) = item.issuer

-- a claimed step is this one, which may come before the later ones
pub record Follows (q : Question) (used : Use) (item : ClaimedStep) (later : List ClaimedStep)
    (step : Step) : Type 0 where
  pub row : Row
  pub into : Has (rows_into q.network (begin_of q.target later)) row
  pub shown : step_of row.edge ≡ step
  pub same : item ≡ claimed_step step
  pub carries : may_stand q.target used (demand_of q (length later)) row ≡ true

-- it is the one that was found, if any
abbrev pub IsFollower : Question → Use → ClaimedStep → List ClaimedStep → Option Step → Type 0
IsFollower q used item later None = (step : Step) → Follows q used item later step → ⊥
IsFollower q used item later (Some step) = Follows q used item later step

abbrev pub Traces : Question → Use → List ClaimedStep → List Step → Type 0
Traces q used [] [] = Unit {0}
Traces q used [] (step ∷ steps) = ⊥
Traces q used (item ∷ later) [] = ⊥
Traces q used (item ∷ later) (step ∷ steps) = Follows q used item later step × Traces q used later steps

-- the steps that were found, if any, are the claimed ones
abbrev pub IsTrace : Question → Use → List ClaimedStep → Option (Vec Step Global) → Type 0
IsTrace q used items None = (steps : List Step) → Traces q used items steps → ⊥
IsTrace q used items (Some steps) = Traces q used items steps.items

-- an edge is of this issuer and on the user ID at this place
abbrev pub IsNamed : ClaimedStep → EdgeFacts → Type 0
IsNamed item edge = (edge.issuer ≡ item.issuer) × (edge.uid ≡ item.place)

-- none of these edges is it; and one of these that is
abbrev pub NoneNamed : ClaimedStep → List EdgeFacts → Type 0
NoneNamed item edges = (edge : EdgeFacts) → Has edges edge → IsNamed item edge → ⊥

abbrev pub IsFound : ClaimedStep → List EdgeFacts → EdgeFacts → Type 0
IsFound item edges edge = Has edges edge × IsNamed item edge

abbrev pub has_name : ClaimedStep → EdgeFacts → Bool
has_name item edge = same_fpr edge.issuer item.issuer && nat_eq edge.uid item.place

-- the path that was found, if any, is the one that the claim shows
abbrev pub IsShown : Question → Use → Claim → Option Path → Type 0
IsShown q used claim None = (path : Path) → Shows q used claim path → ⊥
IsShown q used claim (Some path) = Shows q used claim path

-- it is made of traced steps
abbrev pub IsPathBy : Question → Use → ℕ → List Step → Option Path → Type 0
IsPathBy q used amount steps found =
    IsRecord q.network → is_in_order q ≡ true → length steps ≤ 255
    → (items : List ClaimedStep) → Traces q used items steps
    → IsShown q used (record { amount = amount; steps = items }) found

-- what the paths use that right claims show
abbrev pub AreUsedBy : Question → List Claim → Option Sums → Type 0
AreUsedBy q claims None = AreGood q claims → ⊥
AreUsedBy q claims (Some used) = (paths : List Path) × EachShows q [] claims paths × (use_in used ≡ use_of paths)
