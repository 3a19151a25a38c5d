-- Laws of a single line: it has exactly one outcome, and a refusal changes nothing.
use Rattle.std.specs.Prelude.{◌≡◌, ℕ, Bool, true, List, Option, Some}
use Rattle.wot_policy.specs.declared.rows.PolicyRows.{PolicyRows}
use Rattle.wot_script.specs.declared.reply.Reply.{Reply}
use Rattle.wot_script.specs.declared.reply.Reply.TheVariants.{Shelf}
use Rattle.wot_script.specs.Replies.{is_refusal}
use Rattle.wot_cache.specs.State.{IsState}
use Rattle.wot_plain.specs.LineStep.{LineStep}
use Rattle.wot_plain.specs.Served.{Served}
use Rattle.wot_plain.specs.Watching.{ReportsWatches}
use Rattle.wot_plain.specs.Session.{Session}

-- whatever the certificate directory returns, each line has an outcome: a reply or none, and a new state
abbrev pub HaveOutcomes : PolicyRows → Type 0
HaveOutcomes rows = (old : Session) (line : List ℕ) (given : Served)
    → (reply : Option Reply) × (new : Session) × LineStep rows old line given reply new

-- from a well-formed state it has only one
abbrev pub HaveOneOutcome : PolicyRows → Type 0
HaveOneOutcome rows =
    (old : Session) (line : List ℕ) (given : Served) (reply other : Option Reply) (new third : Session)
    → IsState old.state → LineStep rows old line given reply new → LineStep rows old line given other third
    → (reply ≡ other) × (new ≡ third)

-- the new state is well-formed too
abbrev pub LeadToStates : PolicyRows → Type 0
LeadToStates rows =
    (old : Session) (line : List ℕ) (given : Served) (reply : Option Reply) (new : Session) → IsState old.state
    → LineStep rows old line given reply new → IsState new.state

-- a state has watch lines, and a well-formed state has only one list of them
abbrev pub HaveWatchLines : Type 0
HaveWatchLines = (old : Session) → (reported : List Reply) × (new : Session) × ReportsWatches old reported new

abbrev pub HaveOnlyWatchLines : Type 0
HaveOnlyWatchLines =
    (old : Session) (reported others : List Reply) (new third : Session) → IsState old.state
    → ReportsWatches old reported new → ReportsWatches old others third → (reported ≡ others) × (new ≡ third)

-- all of these laws
pub record OneOutcome (rows : PolicyRows) : Type 0 where
  pub some : HaveOutcomes rows
  pub one : HaveOneOutcome rows
  pub stays : LeadToStates rows
  pub tells : HaveWatchLines
  pub tells_one : HaveOnlyWatchLines

-- whether the line is refused, or the certificate directory failed
abbrev pub is_refused : Reply → Bool
is_refused Shelf = true
is_refused reply = is_refusal reply

-- A refused line changes nothing: certificates, verdicts, views, counts, cursors and watches stay.
abbrev pub RefusalsLeaveAll : PolicyRows → Type 0
RefusalsLeaveAll rows =
    (old : Session) (line : List ℕ) (given : Served) (reply : Reply) (new : Session)
    → LineStep rows old line given (Some reply) new
    → is_refused reply ≡ true → new ≡ old
