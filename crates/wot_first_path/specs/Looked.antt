-- What a search has looked at, as what holds for each fingerprint of it.
use Rattle.std.specs.Prelude.{◌≡◌, ◌⊎◌, ℕ, ◌<◌, ◌≤◌, List, length}
use Rattle.wot_types.specs.declared.fpr.Fpr.{Fpr}
use Rattle.wot_edge.specs.declared.path.Step.{Step}
use Rattle.wot_edge.specs.Record.{Record, Row, Has, rows_into}
use Rattle.wot_edge.specs.Path.{Reaches, start, step_of, step_left}
use Rattle.wot_first_path.specs.Quest.{Quest}
use Rattle.wot_first_path.specs.Suffix.{Suffix}

-- all of the old set is in the new one
abbrev pub Widens : (Fpr → Type 0) → (Fpr → Type 0) → Type 0
Widens old new = (fpr : Fpr) → old fpr → new fpr

-- a set gained only this
abbrev pub Gains : (Fpr → Type 0) → (Fpr → Type 0) → (Fpr → Type 0) → Type 0
Gains only before after = (fpr : Fpr) → after fpr → before fpr ⊎ only fpr

-- Before these edges the search looked at everything that matters: where they begin, and the issuer of each edge into
-- it, usable or not, that may come before them, has the wanted residual amount, and whose issuer is within its reach.
pub record IsSeen (quest : Quest) (set : Fpr → Type 0) (rest : List Step) : Type 0 where
  pub it : set (start quest.question.target rest)
  pub issuers : (row : Row) → Has (rows_into quest.question.network (start quest.question.target rest)) row
      → Reaches quest.question row rest → quest.least ≤ step_left quest.used (step_of row.edge)
      → length rest < quest.reach row.edge.issuer → set row.edge.issuer

-- it looked at everything that matters before each suffix of fewer edges
abbrev pub IsLooked : Quest → ℕ → (Fpr → Type 0) → Type 0
IsLooked quest size set = (rest : List Step) → length rest < size → Suffix quest rest → IsSeen quest set rest

-- a fingerprint, or the issuer of an edge into it
abbrev pub IsNear : Record → Fpr → Fpr → Type 0
IsNear network at fpr = (fpr ≡ at) ⊎ ((row : Row) × Has (rows_into network at) row × (fpr ≡ row.edge.issuer))

-- one of these, or the issuer of an edge into one of them
abbrev pub IsNearOne : Record → List Fpr → Fpr → Type 0
IsNearOne network layer fpr = (at : Fpr) × Has layer at × IsNear network at fpr
