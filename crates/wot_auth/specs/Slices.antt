-- The part of a network that is enough for the answers from some roots to a target. A database with millions of
-- certificates can load such a part, as a slice, and ask an engine that knows nothing else.
use Rattle.std.specs.Prelude.{ℕ, ◌<◌, ◌≤◌, ◌↔◌, List, ◌∷◌}
use Rattle.wot_types.specs.declared.fpr.Fpr.{Fpr}
use Rattle.wot_edge.specs.declared.path.Path.{Path}
use Rattle.wot_edge.specs.declared.path.Step.{Step}
use Rattle.wot_edge.specs.Agree.{Agree}
use Rattle.wot_edge.specs.Answer.{IsAnswer}
use Rattle.wot_edge.specs.Path.{IsNextPath, IsValid, Question, Use}
use Rattle.wot_edge.specs.Record.{Has, Row, rows_into}
use Rattle.wot_edge.specs.Roots.{root_amount}

-- The set contains each root, and with each member everything that it certified with a depth of at least 1. The target
-- needn't be a member: it may be certified with depth 0 only.
pub record IsSliceOf (q : Question) (set : List Fpr) : Type 0 where
  pub roots : (fpr : Fpr) → 0 < root_amount q.roots fpr → Has set fpr
  pub onward : (fpr : Fpr) (row : Row) → Has (rows_into q.network fpr) row → Has set row.edge.issuer
      → 1 ≤ row.edge.depth
      → Has set fpr

-- The set is a slice of both questions, which agree on its members and on the target.
pub record ShareSlice (q other : Question) (set : List Fpr) : Type 0 where
  pub one : IsSliceOf q set
  pub second : IsSliceOf other set
  pub agree : Agree q other (q.target ∷ set)

-- Questions that share a slice have the same valid paths, the same next paths after the same earlier use, and the same
-- answers, whatever else their records say.
pub record AnswerAlike (q other : Question) : Type 0 where
  pub valid : (steps : List Step) → IsValid q steps ↔ IsValid other steps
  pub next : (used : Use) (path : Path) → IsNextPath q used path ↔ IsNextPath other used path
  pub answer : (wanted : ℕ) (paths : List Path) → IsAnswer q wanted paths ↔ IsAnswer other wanted paths

-- Each issuer on a valid path is a member.
abbrev pub StayWithin : Question → List Fpr → Type 0
StayWithin q set = (steps : List Step) → IsValid q steps → (step : Step) → Has steps step → Has set step.issuer

-- Valid paths stay within each slice.
abbrev pub AreWithinSlices : Type 0
AreWithinSlices = (q : Question) (set : List Fpr) → IsSliceOf q set → StayWithin q set

abbrev pub DoSlicesAnswer : Type 0
DoSlicesAnswer = (q other : Question) (set : List Fpr) → ShareSlice q other set → AnswerAlike q other

-- ---- any other part

-- The valid paths of both questions stay within the set, and the questions agree on it and on the target.
pub record AgreeWithin (q other : Question) (set : List Fpr) : Type 0 where
  pub one : StayWithin q set
  pub second : StayWithin other set
  pub agree : Agree q other (q.target ∷ set)

-- Such questions have the same valid paths, next paths and answers.
abbrev pub DoPathsAnswer : Type 0
DoPathsAnswer = (q other : Question) (set : List Fpr) → AgreeWithin q other set → AnswerAlike q other
