-- Which lines of a reply to `explain` say `edge`: those of the usable edges, by the definition of edges alone.
use Rattle.std.specs.Prelude.{◌≡◌, ◌⊎◌, ℕ, List, length, map, Option, Some, IfSome}
use Rattle.wot_types.specs.declared.fpr.Fpr.{Fpr}
use Rattle.wot_keyring_spec.specs.Keyring.{Keyring, certificates_in}
use Rattle.wot_script.specs.declared.command.Command.{Command}
use Rattle.wot_plain.specs.declared.class.Class.{Class}
use Rattle.wot_plain.specs.declared.class.Class.TheVariants.{State as OfState}
use Rattle.wot_plain.specs.declared.class.StateCommand.TheVariants as kinds
use Rattle.wot_plain.specs.declared.class.ViewQuestion.{ViewQuestion}
use Rattle.wot_plain.specs.declared.class.ViewQuestion.TheVariants as questions
use Rattle.wot_plain.specs.Classes.{class_of}
use Rattle.wot_script.specs.declared.reply.Reply.{Reply}
use Rattle.wot_script.specs.declared.reply.Reply.TheVariants as replies
use Rattle.wot_cache.specs.declared.view.View.{View}
use Rattle.wot_cache.specs.State.{Engine, state_of}
use Rattle.wot_cache.specs.Views.{view_at}
use Rattle.wot_explain.specs.declared.explained.Explained.{Explained}
use Rattle.wot_explain.specs.Explaining.{explanation}
use Rattle.wot_explain.specs.Reasons.{Reason}
use Rattle.wot_explain.specs.Usable.{TellsEdges}
use Rattle.wot_plain.specs.Listing.{explained_from, reason_line}

-- The explanation of a user ID at a time has a step exactly for each usable edge.
abbrev pub EdgesAreTold : Keyring → ℕ → Fpr → List ℕ → Type 0
EdgesAreTold keyring t fpr uid =
    IfSome (explanation (certificates_in keyring) keyring.verdicts t fpr uid)
    (λ (found : Explained). TellsEdges keyring t fpr uid found.certs)

-- The reply has a line for each certification on the user ID. It says `edge` exactly if the certification is a usable
-- edge, with the issuer, the depth and the amount of that edge.
pub record EdgesMarked (keyring : Keyring) (t : ℕ) (fpr : Fpr) (uid : List ℕ) (reply : Reply) : Type 0 where
  pub target : ℕ
  pub reasons : List Reason
  pub lines : reply ≡ replies.Explained target (length reasons) (map reason_line reasons)
  pub edges : TellsEdges keyring t fpr uid reasons

-- the reply says so, or that the certificate or the user ID is absent
abbrev pub MarksEdges : Keyring → ℕ → Fpr → List ℕ → Reply → Type 0
MarksEdges keyring t fpr uid reply = (reply ≡ replies.Absent) ⊎ EdgesMarked keyring t fpr uid reply

-- what holds of a reply to `explain` from an open view, at its time
abbrev pub MarksFrom : Engine → List ℕ → Fpr → List ℕ → Type 0
MarksFrom engine name fpr uid =
    IfSome (view_at engine.views name) (λ (v : View).
    MarksEdges engine.keyring v.time fpr uid (explained_from (state_of engine) (Some v) fpr uid))

-- what holds of the reply if the question is `explain`
abbrev pub QuestionMarks : Engine → List ℕ → ViewQuestion → Type 0
QuestionMarks engine view (questions.Explain fpr uid) = MarksFrom engine view fpr uid
QuestionMarks engine view _ = Unit {0}

-- what holds of the reply to a command
abbrev pub CommandMarks : Engine → Class → Type 0
CommandMarks engine (OfState (kinds.Question view question)) = QuestionMarks engine view question
CommandMarks engine _ = Unit {0}

-- what holds of the reply if the line's command is `explain`
abbrev pub LineMarks : Engine → Option Command → Type 0
LineMarks engine command = IfSome command (λ command. CommandMarks engine (class_of command))
