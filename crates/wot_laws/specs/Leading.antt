-- The parts of a state that determine the replies to `absence` and `check`. A service that keeps its certificates in a
-- database loads only such a part into an engine, and gets the replies of an engine that holds everything. They use
-- what leads to a certificate in wot_network (certificates and verdicts) and in wot_check (edges).
use Rattle.std.specs.Prelude.{◌≡◌, ℕ, List, ◌∷◌, Some}
use Rattle.wot_types.specs.declared.fpr.Fpr.{Fpr}
use Rattle.wot_policy.specs.declared.rows.PolicyRows.{PolicyRows}
use Rattle.wot_script.specs.declared.command.Command.TheVariants.{Absence, Check}
use Rattle.wot_reply_lines.specs.declared.claims.ClaimLine.{ClaimLine}
use Rattle.wot_reply_lines.specs.declared.claims.ClaimStepLine.{ClaimStepLine}
use Rattle.wot_reply_lines.specs.declared.claims.LabelLine.{LabelLine}
use Rattle.wot_script.specs.Grammar.{command_of}
use Rattle.wot_edge.specs.Record.{Has}
use Rattle.wot_keyring_spec.specs.Held.{Held}
use Rattle.wot_network.specs.Certified.{HasCertifiers, HasIntroducers, LeadsTo}
use Rattle.wot_cache.specs.State.{State}
use Rattle.wot_cache.specs.Views.{view_at}
use Rattle.wot_laws.specs.Depends.{AreRepliesAlike, IsReached}
use Rattle.wot_laws.specs.Slices.{HoldAlike}
use Rattle.wot_plain.specs.Session.{Session}

-- Both hold the same at the target and at each member of the set.
abbrev pub HoldAlikeOn : Fpr → List Fpr → Held → Held → Type 0
HoldAlikeOn target set one other = (fpr : Fpr) → Has (target ∷ set) fpr → HoldAlike one other fpr

-- ---- `absence`

-- Two states are alike for proofs of absence about a target from the named view: the view has the same time and roots
-- in both or is open in neither, and both hold the same at the target and at all that leads to it. Everything else may
-- differ, even a root's certificate.
pub record AreAlikeBefore (name : List ℕ) (target : Fpr) (one other : State) : Type 0 where
  pub view : view_at one.views name ≡ view_at other.views name
  pub set : List Fpr
  pub leads : LeadsTo one.held.certs one.held.verdicts target set
  pub held : HoldAlikeOn target set one.held other.held

-- a line `absence` about the target from the named view
pub record IsAbsenceLine (name : List ℕ) (target : Fpr) (line : List ℕ) : Type 0 where
  pub wanted : ℕ
  pub uid : List ℕ
  pub read : command_of line ≡ Some (Absence name target wanted uid)

-- The reply to `absence` depends only on what leads to the target: whatever histories lead to two states that are
-- alike, each such line gets the same reply in both.
abbrev pub DoAbsencesRestOnLeading : PolicyRows → Type 0
DoAbsencesRestOnLeading rows =
    (name : List ℕ) (target : Fpr) (one other : Session) → IsReached rows one → IsReached rows other
    → AreAlikeBefore name target one.state other.state
    → (line : List ℕ) → IsAbsenceLine name target line → AreRepliesAlike rows one other line

-- ---- `check`

-- a claim of absence: the paths and the labels that a line `check` has
pub record Claimed : Type 0 where
  pub paths : List ClaimLine
  pub labels : List LabelLine

-- The set has all that a check of a claim looks at: every key that certified the target, the issuers on the claimed
-- paths, each fingerprint with a label, and every key that certified one of these with a depth of at least 1.
pub record HasLookedAt (held : Held) (target : Fpr) (claimed : Claimed) (set : List Fpr) : Type 0 where
  pub last : HasCertifiers held.certs held.verdicts set target
  pub issuers : (path : ClaimLine) → Has claimed.paths path → (step : ClaimStepLine) → Has path.1 step → Has set step.0
  pub labelled : (label : LabelLine) → Has claimed.labels label → Has set label.0
  pub before : (label : LabelLine) → Has claimed.labels label → HasIntroducers held.certs held.verdicts set label.0

-- Two states are alike for checks of a claim about a target from the named view: the view has the same time and roots
-- in both or is open in neither, and both hold the same at the target and at all that the check looks at. Everything
-- else may differ.
pub record AreAlikeForClaim (name : List ℕ) (target : Fpr) (claimed : Claimed) (one other : State) : Type 0 where
  pub view : view_at one.views name ≡ view_at other.views name
  pub set : List Fpr
  pub looks : HasLookedAt one.held target claimed set
  pub held : HoldAlikeOn target set one.held other.held

-- a line `check` of the claim about the target from the named view
pub record IsCheckLine (name : List ℕ) (target : Fpr) (claimed : Claimed) (line : List ℕ) : Type 0 where
  pub uid : List ℕ
  pub read : command_of line ≡ Some (Check name target claimed.paths claimed.labels uid)

-- The reply to `check` depends only on what the check looks at: whatever histories lead to two states that are alike,
-- each such line gets the same reply in both.
abbrev pub DoChecksRestOnLookedAt : PolicyRows → Type 0
DoChecksRestOnLookedAt rows =
    (name : List ℕ) (target : Fpr) (claimed : Claimed) (one other : Session) → IsReached rows one → IsReached rows other
    → AreAlikeForClaim name target claimed one.state other.state
    → (line : List ℕ) → IsCheckLine name target claimed line → AreRepliesAlike rows one other line
