-- How often a run asks the policy: in each line as often as the clause on one line says, and never between lines.
use Rattle.std.specs.Prelude.{◌≡◌, ◌⊎◌, ℕ, List, [], ◌∷◌, take, drop, Option, None, Result, Ok, Err}
use Rattle.wot_io.specs.Input.{lines_of, whole_lines_of}
use Rattle.wot_io.specs.declared.lines.Line.{Line}
use Rattle.wot_io.specs.declared.lines.Line.TheVariants.{Text, Long, End}
use Rattle.wot_policy.specs.declared.policy.Policy.{Policy}
use Rattle.wot_policy.specs.declared.rows.PolicyRows.{PolicyRows}
use Rattle.wot_policy.specs.Kept.{rows_of}
use Rattle.wot_script.specs.declared.command.Command.{Command}
use Rattle.wot_script.specs.declared.reply.Reply.{Reply}
use Rattle.wot_certd.specs.World.{World}
use Rattle.wot_cache.specs.State.{State}
use Rattle.wot_command.specs.Asked.{LineAsks}
use Rattle.wot_plain.specs.Both.{Ends}
use Rattle.wot_plain.specs.Lines.{command_in_line}
use Rattle.wot_plain.specs.Scene.{Scene, Step, opening}
use Rattle.wot_engine.specs.Source.{IsTaken}
use Rattle.wot_plain.specs.Session.{Session}
use Rattle.wot_engine.specs.Ends.{IsEither}
use Rattle.wot_engine.specs.Contents.{Octets, OnContents, Contents, Worlds}

-- ---- lines that were answered

-- the result of a line that was answered
abbrev pub done : Result (Unit {0}) (Unit {0})
done = Ok tt

-- The line has its step. The policy is asked once for each well-formed signature that the line adds if it is an import
-- or a load, and otherwise not at all.
pub record AsksOnce {F : Type 0} (rows : PolicyRows) (line : List ℕ) (old : Scene) (before : Policy F) (new : Scene)
    (after : Policy F) : Type 0 where
  pub reply : Option Reply
  pub reported : List Reply
  pub step : Step rows old line reply reported new
  pub asked : LineAsks done (command_in_line line) old.whole.state new.whole.state before after

-- The line does so, and Follows holds of the scene and the policy after it.
pub record AsksBefore {F : Type 0} (rows : PolicyRows) (line : List ℕ) (old : Scene) (before : Policy F)
    (Follows : Scene → Policy F → Type 0) : Type 0 where
  pub mid : Scene
  pub between : Policy F
  pub once : AsksOnce rows line old before mid between
  pub follows : Follows mid between

-- The lines, one after another, lead from old to new. Each of them asks the policy as AsksOnce says, and nothing else
-- asks it.
abbrev pub AsksInTurn : {F : Type 0} → PolicyRows → List (List ℕ) → Scene → Policy F → Scene → Policy F → Type 0
AsksInTurn rows [] old before new after = (new ≡ old) × (after ≡ before)
AsksInTurn rows (line ∷ lines) old before new after =
    AsksBefore rows line old before (λ mid between. AsksInTurn rows lines mid between new after)

-- These lines do so from the start on, with a directory of this world.
pub record AsksFor {F : Type 0} (rows : PolicyRows) (world : World) (lines : List (List ℕ)) (before after : Policy F)
    : Type 0 where
  pub last : Scene
  pub in_turn : AsksInTurn rows lines (opening world) before last after

-- ---- a line for which memory ran out

abbrev pub failed : Result (Unit {0}) (Unit {0})
failed = Err tt

-- An import or a load may have asked the policy before memory ran out. No other line asks it.
abbrev pub MayAsk : {F : Type 0} → Option Command → Policy F → Policy F → Type 0
MayAsk command before after = (old : State) × (new : State) × LineAsks failed command old new before after

-- the next of these lines may have done so
abbrev pub MayAskNext : {F : Type 0} → List (List ℕ) → Policy F → Policy F → Type 0
MayAskNext [] before after = after ≡ before
MayAskNext (line ∷ lines) before after = (after ≡ before) ⊎ MayAsk (command_in_line line) before after

-- the command of a line that was read; a line that was too long has none
abbrev pub command_by : Line → List ℕ → Option Command
command_by Text text = command_in_line text
command_by Long text = None
command_by End text = None

-- What a line that was read asks, with what the machine keeps and the policy before and after it.
abbrev pub ReadAsks : {T E F : Type 0} → Result T E → Line → List ℕ → Ends Session → Ends (Policy F) → Type 0
ReadAsks result line text machine policy =
    LineAsks result (command_by line text) machine.old.state machine.new.state policy.old policy.new

-- ---- runs

-- The first lines of the input, up to some line, asked the policy. The next one may have asked it before memory ran
-- out.
pub record AsksFirst {F : Type 0} (rows : PolicyRows) (contents : Contents) (before after : Policy F) : Type 0 where
  pub count : ℕ
  pub between : Policy F
  pub asked : AsksFor rows contents.world (take count (lines_of contents.input)) before between
  pub next : MayAskNext (drop count (lines_of contents.input)) between after

-- All whole lines of the octets that were taken asked the policy. If nothing is left, a last line without a line feed
-- may count as whole.
pub record AsksTaken {F : Type 0} (rows : PolicyRows) (contents : Contents) (left : Option (List ℕ))
    (before after : Policy F) : Type 0 where
  pub octets : List ℕ
  pub taken : IsTaken contents.input octets left
  pub asked : AsksFor rows contents.world (whole_lines_of octets) before after
      ⊎ ((taken.rest ≡ []) × AsksFor rows contents.world (lines_of octets) before after)

-- With status 0 all lines of the input asked the policy, with 3 and 6 all whole lines that were taken, and with any
-- status some first lines.
pub record AsksBy {F : Type 0} (status : ℕ) (rows : PolicyRows) (contents : Contents) (left : Option (List ℕ))
    (before after : Policy F) : Type 0 where
  pub all : status ≡ 0 → AsksFor rows contents.world (lines_of contents.input) before after
  pub taken : IsEither 3 6 status → AsksTaken rows contents left before after
  pub first : AsksFirst rows contents before after

-- This holds if the contents of source, sink and directory are known.
abbrev pub RunAsks : {F : Type 0} → ℕ → Octets → Octets → Worlds → Ends (Policy F) → Type 0
RunAsks status input output shelf policy = OnContents input.old output.old shelf.old (λ contents.
    AsksBy status (rows_of policy.old) contents input.new policy.old policy.new)
