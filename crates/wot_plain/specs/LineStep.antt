-- What a line does: one step of the abstract machine.
use Rattle.std.specs.Prelude.{◌≡◌, ℕ, nat_lt, List, length, Option, Some, None, MatchBool}
use Rattle.wot_types.specs.declared.name.Name.{Name}
use Rattle.wot_policy.specs.declared.rows.PolicyRows.{PolicyRows}
use Rattle.wot_script.specs.declared.command.Command.{Command}
use Rattle.wot_script.specs.declared.reply.Reply.{Reply}
use Rattle.wot_script.specs.declared.reply.Reply.TheVariants as replies
use Rattle.wot_script.specs.Grammar.{command_of}
use Rattle.wot_certd.specs.World.{Answer}
use Rattle.wot_cache.specs.State.{State}
use Rattle.wot_cache.specs.Views.{view_at}
use Rattle.wot_plain.specs.Both.{Ends}
use Rattle.wot_plain.specs.Lines.{longest, is_silent}
use Rattle.wot_plain.specs.declared.class.Class.{Class}
use Rattle.wot_plain.specs.declared.class.Class.TheVariants.{State as OfState, Cursor, Watch}
use Rattle.wot_plain.specs.declared.class.StateCommand.{StateCommand}
use Rattle.wot_plain.specs.declared.class.StateCommand.TheVariants as kinds
use Rattle.wot_plain.specs.Classes.{AnswersQuestion, call_of, change_of, class_of, reading, view_change_of}
use Rattle.wot_plain.specs.Outcome.{Outcome, load, only}
use Rattle.wot_plain.specs.Served.{Served}
use Rattle.wot_plain.specs.Pacing.{Paces}
use Rattle.wot_plain.specs.Watching.{Watching}
use Rattle.wot_plain.specs.Session.{IsCounted, RevisedBy, Session}

-- the reply and the new state of this outcome
abbrev pub ComesTo : Outcome → Reply → State → Type 0
ComesTo outcome reply new = (reply ≡ outcome.reply) × (new ≡ outcome.state)

-- loading an entry with these octets has this reply, and changes the state so
abbrev pub Loads : PolicyRows → Ends State → Name → List ℕ → Reply → Type 0
Loads rows state name octets reply = ComesTo (load rows state.old name (Answer.entry octets)) reply state.new

-- What a command does to the state, and its reply, by its class. What the certificate directory returns matters only
-- for `load` and `store`. Commands of cursors and watches don't change the state; `Paces` and `Watching` say what they
-- reply.
abbrev pub DoesTo : PolicyRows → State → StateCommand → Served → Reply → State → Type 0
DoesTo rows old (kinds.Change change) given reply new = ComesTo (change_of rows old change) reply new
DoesTo rows old (kinds.View view change) given reply new = ComesTo (view_change_of old view change) reply new
DoesTo rows old (kinds.Question view question) given reply new =
    AnswersQuestion old (view_at old.views view) question reply × (new ≡ old)
DoesTo rows old (kinds.Read what) given reply new = ComesTo (only old (reading old what)) reply new
DoesTo rows old (kinds.Shelf call) given reply new = ComesTo (call_of rows old call given) reply new

abbrev pub StateStep : PolicyRows → State → Class → Served → Reply → State → Type 0
StateStep rows old (OfState command) given reply new = DoesTo rows old command given reply new
StateStep rows old (Cursor name command) given reply new = new ≡ old
StateStep rows old (Watch name command) given reply new = new ≡ old

-- The same with all that is kept: what is counted, the cursors, and the watches.
pub record CommandStep (rows : PolicyRows) (old : Session) (class : Class) (given : Served) (reply : Reply)
    (new : Session) : Type 0 where
  pub does : StateStep rows old.state class given reply new.state
  pub counted : IsCounted old new
  pub turned : RevisedBy class old.state.views old.revisions new.state.views new.revisions
  pub paces : Paces old class reply new.cursors
  pub watching : Watching old class reply new.watches

-- this reply, and nothing changes
abbrev pub Stays : Session → Reply → Reply → Session → Type 0
Stays old expected reply new = (reply ≡ expected) × (new ≡ old)

-- what a line does that is neither too long nor silent
abbrev pub ReadLineStep : PolicyRows → Session → Option Command → Served → Reply → Session → Type 0
ReadLineStep rows old None given reply new = Stays old replies.Line reply new
ReadLineStep rows old (Some command) given reply new = CommandStep rows old (class_of command) given reply new

-- there is a reply, and P holds of it
abbrev pub HasReply : (Reply → Session → Type 0) → Option Reply → Session → Type 0
HasReply P None new = ⊥
HasReply P (Some reply) new = P reply new

-- What a line does, from old to new, with its reply; a silent line has none. `given` is what the certificate directory
-- returns, and `rows` are those of the policy.
abbrev pub LineStep : PolicyRows → Session → List ℕ → Served → Option Reply → Session → Type 0
LineStep rows old line given reply new =
    MatchBool (nat_lt longest (length line)) (HasReply (Stays old replies.Long) reply new)
    (MatchBool (is_silent line) ((reply ≡ None) × (new ≡ old))
    (HasReply (ReadLineStep rows old (command_of line) given) reply new))
