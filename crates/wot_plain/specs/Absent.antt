-- Proofs of absence: why an amount isn't reached, and whether such a claim is accepted.
use Rattle.std.specs.Prelude.{◌≡◌, ℕ, Bool, true, false, nat_le, List, map, sum_by, Option, Some, None}
use Rattle.wot_types.specs.declared.fpr.Fpr.{Fpr}
use Rattle.wot_edge.specs.declared.path.Path.{Path}
use Rattle.wot_edge.specs.declared.path.Step.{Step}
use Rattle.wot_edge.specs.Answer.{IsAnswer, amount_of}
use Rattle.wot_edge.specs.Path.{Question, asks, use_of}
use Rattle.wot_network.specs.Net.{network_for}
use Rattle.wot_network.specs.Roads.{present_of}
use Rattle.wot_reply_lines.specs.declared.claims.ClaimLine.{ClaimLine}
use Rattle.wot_reply_lines.specs.declared.claims.ClaimStepLine.{ClaimStepLine}
use Rattle.wot_reply_lines.specs.declared.claims.LabelLine.{LabelLine}
use Rattle.wot_script.specs.declared.reply.Reply.{Reply}
use Rattle.wot_script.specs.declared.reply.Reply.TheVariants as replies
use Rattle.wot_check.specs.declared.checking.Checked.{Checked}
use Rattle.wot_check.specs.declared.checking.Checked.TheVariants as answers
use Rattle.wot_check.specs.declared.claimed.ClaimedStep.{ClaimedStep}
use Rattle.wot_check.specs.Absence.{AreSpent, IsChecked, IsLeastTable}
use Rattle.wot_check.specs.Claim.{Claim}
use Rattle.wot_check.specs.Table.{IsTable, Labels}
use Rattle.wot_answers.specs.declared.parts.Parts.{Parts}
use Rattle.wot_cache.specs.declared.view.View.{View}
use Rattle.wot_cache.specs.Question.{question_in}
use Rattle.wot_cache.specs.State.{State, IsState}

-- the question over the parts of a view
abbrev pub asked_from : Parts → Fpr → List ℕ → Question
asked_from parts target uid = asks (network_for (present_of parts.roads) uid) parts.roots.now target

-- ---- `absence`

-- a step of a claim: its issuer, and the index of the user ID that it certifies
abbrev pub claim_step : Step → ClaimStepLine
claim_step step = record { 0 = step.issuer; 1 = step.uid }

-- a claimed path: its amount and its steps
abbrev pub claim_line : Path → ClaimLine
claim_line path = record { 0 = path.amount; 1 = map claim_step path.steps }

-- a label of a proof of absence
abbrev pub label_line : Fpr × ℕ → LabelLine
label_line label = record { 0 = label.0; 1 = label.1 }

-- the sum of the paths, the paths, and the labels
abbrev pub missed : List Path → Labels → Reply
missed paths table = replies.Missed (amount_of paths) (map claim_line paths) (map label_line table)

-- If the paths reach what is wanted, the reply is their sum. Otherwise it is the paths, with the least table after
-- them.
abbrev pub TellsAbsence : Bool → Question → List Path → Reply → Type 0
TellsAbsence true q paths reply = reply ≡ replies.Reached (amount_of paths)
TellsAbsence false q paths reply =
    (table : Labels) × IsTable table × IsLeastTable q (use_of paths) table × (reply ≡ missed paths table)

-- the reply for the paths that are the answer to the question
abbrev pub MissesBy : Question → ℕ → Reply → Type 0
MissesBy q wanted reply =
    (paths : List Path) × IsAnswer q wanted paths × TellsAbsence (nat_le wanted (amount_of paths)) q paths reply

-- `absence`: the reply from an open view, by the question in this state
abbrev pub Misses : State → Option View → Fpr → ℕ → List ℕ → Reply → Type 0
Misses s None target wanted uid reply = reply ≡ replies.View
Misses s (Some view) target wanted uid reply = MissesBy (question_in s view target uid) wanted reply

-- ---- `check`

abbrev pub claimed_step : ClaimStepLine → ClaimedStep
claimed_step step = record { issuer = step.0; place = step.1 }

-- the path that a claim line stands for
abbrev pub claim_in : ClaimLine → Claim
claim_in claim = record { amount = claim.0; steps = map claimed_step claim.1 }

-- the table that the label lines stand for
abbrev pub table_in : List LabelLine → Labels
table_in labels = map (λ (label : LabelLine). (label.0, label.1)) labels

-- the sum of the claimed amounts
abbrev pub sum_in : List ClaimLine → ℕ
sum_in claims = sum_by (λ (claim : ClaimLine). claim.0) claims

-- the reply to a claim, by the result of its check
abbrev pub verdict_on : List ClaimLine → Checked → Reply
verdict_on claims answers.Yes = replies.CheckedYes (sum_in claims)
verdict_on claims answers.BadPaths = replies.CheckedNoPaths
verdict_on claims answers.BadTable = replies.CheckedNoTable

-- the reply for the result of checking this question
abbrev pub ChecksBy : Question → List ClaimLine → List LabelLine → Reply → Type 0
ChecksBy q claims labels reply =
    (checked : Checked) × IsChecked q (map claim_in claims) (table_in labels) checked
    × (reply ≡ verdict_on claims checked)

-- `check`: the reply from an open view, by the question in this state
abbrev pub Checks : State → Option View → Fpr → List ClaimLine → List LabelLine → List ℕ → Reply → Type 0
Checks s None target claims labels uid reply = reply ≡ replies.View
Checks s (Some view) target claims labels uid reply = ChecksBy (question_in s view target uid) claims labels reply

-- ---- what claims are worth

-- The claim of a reply `absence missed` is accepted: given to `check` from the same view, it gets `checked yes`.
abbrev pub AreClaimsAccepted : Type 0
AreClaimsAccepted =
    (s : State) (view : View) (target : Fpr) (wanted : ℕ) (uid : List ℕ) (sum : ℕ)
    (claims : List ClaimLine) (labels : List LabelLine)
    → Misses s (Some view) target wanted uid (replies.Missed sum claims labels)
    → Checks s (Some view) target claims labels uid (replies.CheckedYes sum)

-- In a well-formed state, no valid path of positive amount is left after the paths of an accepted claim.
abbrev pub DoClaimsLeaveNothing : Type 0
DoClaimsLeaveNothing =
    (s : State) (view : View) (target : Fpr) (uid : List ℕ) (sum : ℕ)
    (claims : List ClaimLine) (labels : List LabelLine) → IsState s
    → Checks s (Some view) target claims labels uid (replies.CheckedYes sum)
    → AreSpent (question_in s view target uid) (map claim_in claims)
