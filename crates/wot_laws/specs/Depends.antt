-- What an answer depends on.
use Rattle.std.specs.Prelude.{◌≡◌, ℕ, List, map, Option, Some}
use Rattle.wot_types.specs.declared.fpr.Fpr.{Fpr}
use Rattle.wot_policy.specs.declared.rows.PolicyRows.{PolicyRows}
use Rattle.wot_script.specs.declared.command.Command.{Command}
use Rattle.wot_plain.specs.declared.class.Class.{Class}
use Rattle.wot_plain.specs.declared.class.Class.TheVariants.{State as OfState}
use Rattle.wot_plain.specs.declared.class.StateCommand.TheVariants as kinds
use Rattle.wot_plain.specs.Classes.{class_of}
use Rattle.wot_script.specs.declared.reply.Reply.{Reply}
use Rattle.wot_script.specs.Grammar.{command_of}
use Rattle.wot_component.specs.Certificate.{Certificate, unmarked}
use Rattle.wot_certd.specs.World.{World}
use Rattle.wot_keyring_spec.specs.Keyring.{Certificates}
use Rattle.wot_cache.specs.State.{State}
use Rattle.wot_cache.specs.Views.{view_at}
use Rattle.wot_plain.specs.LineStep.{LineStep}
use Rattle.wot_plain.specs.Scene.{opening}
use Rattle.wot_plain.specs.Served.{Served}
use Rattle.wot_plain.specs.Transcript.{Run}
use Rattle.wot_plain.specs.Session.{Session}

-- Some history leads to the state: lines from an empty machine, with a certificate directory in some world.
pub record IsReached (rows : PolicyRows) (s : Session) : Type 0 where
  pub world : World
  pub after : World
  pub lines : List (List ℕ)
  pub replies : List Reply
  pub run : Run rows (opening world) lines replies (record { whole = s; world = after })

-- the certificates by fingerprint, without the policy's marks on their signatures
abbrev pub bare : Certificates → Certificates
bare certs = map (λ (e : Fpr × Certificate). (e.0, unmarked e.1)) certs

-- Two states are alike for the named view: they hold the same certificates apart from policy marks, and the same
-- verdicts. The view has the same time and roots in both, or is open in neither. Other views may differ.
pub record AreAlike (name : List ℕ) (one other : State) : Type 0 where
  pub certs : bare one.held.certs ≡ bare other.held.certs
  pub verdicts : one.held.verdicts ≡ other.held.verdicts
  pub view : view_at one.views name ≡ view_at other.views name

-- a command that asks something from the named view: an answer, a list, an explanation, a proof of absence or the check
-- of one
abbrev pub AsksFrom : List ℕ → Class → Type 0
AsksFrom name (OfState (kinds.Question view question)) = view ≡ name
AsksFrom name _ = ⊥

-- a line with such a command
pub record IsAsk (name line : List ℕ) : Type 0 where
  pub command : Command
  pub asks : AsksFrom name (class_of command)
  pub read : command_of line ≡ Some command

-- the replies to this line are equal, whatever the certificate directory returns
abbrev pub AreRepliesAlike : PolicyRows → Session → Session → List ℕ → Type 0
AreRepliesAlike rows one other line =
    (given reported : Served) (reply second : Option Reply) (new third : Session)
    → LineStep rows one line given reply new → LineStep rows other line reported second third → reply ≡ second

-- An answer depends only on the current certificates and verdicts and on the roots and the time of the asking view:
-- whatever histories lead to two states that are alike for a view, each question from it gets the same reply in both.
abbrev pub DependsOnWhatIsPresent : PolicyRows → Type 0
DependsOnWhatIsPresent rows =
    (name : List ℕ) (one other : Session) → IsReached rows one → IsReached rows other
    → AreAlike name one.state other.state
    → (line : List ℕ) → IsAsk name line → AreRepliesAlike rows one other line
