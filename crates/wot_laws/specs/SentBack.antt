-- A claim that `absence` printed, sent back in a line `check`.
use Rattle.std.specs.Prelude.{◌≡◌, ◌≤◌, ℕ, List, length, Option, Some}
use Rattle.wot_types.specs.declared.fpr.Fpr.{Fpr}
use Rattle.wot_policy.specs.declared.rows.PolicyRows.{PolicyRows}
use Rattle.wot_script.specs.declared.command.Command.{Command}
use Rattle.wot_script.specs.declared.command.Command.TheVariants.{Absence, Check}
use Rattle.wot_reply_lines.specs.declared.claims.ClaimLine.{ClaimLine}
use Rattle.wot_reply_lines.specs.declared.claims.LabelLine.{LabelLine}
use Rattle.wot_script.specs.declared.reply.Reply.{Reply}
use Rattle.wot_script.specs.declared.reply.Reply.TheVariants.{Missed, CheckedYes}
use Rattle.wot_script.specs.Laws.{check_with, claimed, missed_with}
use Rattle.wot_script.specs.Replies.{reply_text}
use Rattle.wot_script.specs.Spelling.{HasSpelling}
use Rattle.wot_cache.specs.State.{State, IsState}
use Rattle.wot_cache.specs.declared.view.View.{View}
use Rattle.wot_plain.specs.Absent.{Misses}
use Rattle.wot_plain.specs.Lines.{command_in_line, longest}
use Rattle.wot_plain.specs.LineStep.{LineStep}
use Rattle.wot_plain.specs.Served.{Served}
use Rattle.wot_plain.specs.Session.{Session}

-- The claim of a reply `absence missed` can be printed in a line `check`.
abbrev pub AreClaimsSpelled : Type 0
AreClaimsSpelled =
    (s : State) (view : View) (name : List ℕ) (target : Fpr) (wanted : ℕ) (uid : List ℕ) (sum : ℕ)
    (claims : List ClaimLine) (labels : List LabelLine)
    → Misses s (Some view) target wanted uid (Missed sum claims labels)
    → HasSpelling (Check name target claims labels uid)

-- A line `absence` got this claim as its reply, in a well-formed state. Its text, put into a line `check` with the same
-- view, target and user ID that isn't too long, is accepted with the same sum while the state is the same.
abbrev pub IsAcceptedAgain : List ℕ → Fpr → List ClaimLine → List LabelLine → List ℕ → Type 0
IsAcceptedAgain view target claims labels uid =
    (rows : PolicyRows) (old mid : Session) (asked : List ℕ) (given : Served) (wanted sum : ℕ)
    → IsState old.state
    → command_in_line asked ≡ Some (Absence view target wanted uid)
    → LineStep rows old asked given (Some (Missed sum claims labels)) mid
    → length (check_with view target (claimed claims labels) uid) ≤ longest
    → (later new : Session) (served : Served) (reply : Option Reply)
    → later.state ≡ mid.state
    → LineStep rows later (check_with view target (claimed claims labels) uid) served reply new
    → reply ≡ Some (CheckedYes sum)

-- The claim is printed as one text, whatever the sum, and is accepted when this text is sent back.
pub record IsSentBack (view : List ℕ) (target : Fpr) (claims : List ClaimLine) (labels : List LabelLine)
    (uid : List ℕ) : Type 0 where
  pub printed : (sum : ℕ) → reply_text (Missed sum claims labels) ≡ missed_with sum (claimed claims labels)
  pub accepted : IsAcceptedAgain view target claims labels uid

-- this holds of the claim that the command checks
abbrev pub ComesBack : Command → Type 0
ComesBack (Check view target claims labels uid) = IsSentBack view target claims labels uid
ComesBack _ = Unit {0}
