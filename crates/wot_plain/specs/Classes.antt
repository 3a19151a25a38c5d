-- The class of each command, and what the commands of each class do. Other definitions, and almost all lemmas, speak of
-- classes, and don't change if a command is added to a class.
use Rattle.std.specs.Prelude.{◌≡◌, ◌≤◌, ◌<◌, ◌*◌, ℕ, Bool, true, false, List, length, map, Option}
use Rattle.wot_types.specs.declared.fpr.Fpr.{Fpr}
use Rattle.wot_types.specs.Limits.{standard_limits}
use Rattle.wot_policy.specs.declared.rows.PolicyRows.{PolicyRows}
use Rattle.wot_verdict.specs.declared.verdict.Verdict.TheVariants as verdicts
use Rattle.wot_component.specs.Certificate.{Certificate}
use Rattle.wot_keyring_spec.specs.Held.{cert_in}
use Rattle.wot_keyring_spec.specs.Import.{answer_to}
use Rattle.wot_keyring_spec.specs.Pending.{pending_in}
use Rattle.wot_keyring.specs.Dump.{lines_of}
use Rattle.wot_reply_lines.specs.Claims.{IsClaimSpelled}
use Rattle.wot_script.specs.declared.command.Command.{Command}
use Rattle.wot_script.specs.declared.command.Command.TheVariants as commands
use Rattle.wot_script.specs.declared.reply.Reply.{Reply}
use Rattle.wot_script.specs.declared.reply.Reply.TheVariants as replies
use Rattle.wot_cache.specs.declared.view.View.{View}
use Rattle.wot_cache.specs.Dump.{commands_of}
use Rattle.wot_cache.specs.State.{State, rooting, timing}
use Rattle.wot_cache.specs.Views.{root_fault, time_fault, view_at}
use Rattle.wot_plain.specs.declared.class.Class.{Class}
use Rattle.wot_plain.specs.declared.class.Class.TheVariants.{State as OfState, Cursor, Watch}
use Rattle.wot_plain.specs.declared.class.StateCommand.TheVariants as kinds
use Rattle.wot_plain.specs.declared.class.Change.{Change}
use Rattle.wot_plain.specs.declared.class.Change.TheVariants as changes
use Rattle.wot_plain.specs.declared.class.ViewChange.{ViewChange}
use Rattle.wot_plain.specs.declared.class.ViewChange.TheVariants as revisions
use Rattle.wot_plain.specs.declared.class.ViewQuestion.{ViewQuestion}
use Rattle.wot_plain.specs.declared.class.ViewQuestion.TheVariants as questions
use Rattle.wot_plain.specs.declared.class.Read.{Read}
use Rattle.wot_plain.specs.declared.class.Read.TheVariants as reads
use Rattle.wot_plain.specs.declared.class.ShelfCall.{ShelfCall}
use Rattle.wot_plain.specs.declared.class.ShelfCall.TheVariants as calls
use Rattle.wot_plain.specs.declared.class.CursorCommand.TheVariants as paces
use Rattle.wot_plain.specs.declared.class.WatchCommand.{WatchCommand}
use Rattle.wot_plain.specs.declared.class.WatchCommand.TheVariants as watching
use Rattle.wot_plain.specs.Absent.{Checks, Misses}
use Rattle.wot_plain.specs.Answer.{Asks}
use Rattle.wot_plain.specs.Listing.{Lists, explained_from, pending_line}
use Rattle.wot_plain.specs.Outcome.{Outcome, clear_verdict, close, exported, imports, key_line_of, load, only, remove}
use Rattle.wot_plain.specs.Outcome.{set_verdict, unless}
use Rattle.wot_plain.specs.Served.{Served}
use Rattle.wot_plain.specs.Storing.{stored_from}

-- ---- the class of a command

abbrev pub class_of : Command → Class
class_of (commands.Import octets) = OfState (kinds.Change (changes.Import octets))
class_of (commands.Remove fpr) = OfState (kinds.Change (changes.Remove fpr))
class_of (commands.Good number fpr) = OfState (kinds.Change (changes.Judge number (verdicts.Good fpr)))
class_of (commands.Bad number) = OfState (kinds.Change (changes.Judge number verdicts.Bad))
class_of (commands.Unjudge number) = OfState (kinds.Change (changes.Unjudge number))
class_of (commands.Time view t) = OfState (kinds.View view (revisions.Time t))
class_of (commands.Root view fpr amount) = OfState (kinds.View view (revisions.Root fpr amount))
class_of (commands.Close view) = OfState (kinds.View view revisions.Close)
class_of (commands.Ask view target wanted uid) = OfState (kinds.Question view (questions.Ask target wanted uid))
class_of (commands.List view wanted) = OfState (kinds.Question view (questions.List wanted))
class_of (commands.Explain view fpr uid) = OfState (kinds.Question view (questions.Explain fpr uid))
class_of (commands.Absence view target wanted uid) = OfState (kinds.Question view (questions.Absence target wanted uid))
class_of (commands.Check view target claims labels uid) =
    OfState (kinds.Question view (questions.Check target claims labels uid))
class_of commands.Pending = OfState (kinds.Read reads.Pending)
class_of commands.Keys = OfState (kinds.Read reads.Keys)
class_of (commands.Export fpr) = OfState (kinds.Read (reads.Export fpr))
class_of commands.Dump = OfState (kinds.Read reads.Dump)
class_of (commands.Load name) = OfState (kinds.Shelf (calls.Load name))
class_of (commands.Store fpr) = OfState (kinds.Shelf (calls.Store fpr))
class_of (commands.CursorOver name view wanted) = Cursor name (paces.Over view wanted)
class_of (commands.CursorNext name count) = Cursor name (paces.Next count)
class_of (commands.CursorClose name) = Cursor name paces.Close
class_of (commands.WatchOn name view target wanted uid) = Watch name (watching.On view target wanted uid)
class_of (commands.WatchOff name) = Watch name watching.Off

-- whether it isn't a command of a cursor or of a watch
abbrev pub is_own : Class → Bool
is_own (OfState command) = true
is_own _ = false

-- ---- what the commands of a class do

-- a change of certificates or verdicts: the reply, and the state after it
abbrev pub change_of : PolicyRows → State → Change → Outcome
change_of rows s (changes.Import octets) = imports rows s octets (answer_to rows standard_limits s.held.certs octets)
change_of rows s (changes.Remove fpr) = remove s fpr
change_of rows s (changes.Judge number verdict) = set_verdict s number verdict
change_of rows s (changes.Unjudge number) = clear_verdict s number

-- a change of a view: the reply, and the state after it
abbrev pub view_change_of : State → List ℕ → ViewChange → Outcome
view_change_of s view (revisions.Time t) = unless s (time_fault standard_limits s.views view) (timing view t s)
view_change_of s view (revisions.Root fpr amount) =
    unless s (root_fault standard_limits (view_at s.views view) fpr amount) (rooting view fpr amount s)
view_change_of s view revisions.Close = close s view

-- what the reply to a question is, from a view or if there is none
abbrev pub AnswersQuestion : State → Option View → ViewQuestion → Reply → Type 0
AnswersQuestion s view (questions.Ask target wanted uid) reply = Asks s view target wanted uid reply
AnswersQuestion s view (questions.List wanted) reply = Lists s view wanted reply
AnswersQuestion s view (questions.Explain fpr uid) reply = reply ≡ explained_from s view fpr uid
AnswersQuestion s view (questions.Absence target wanted uid) reply = Misses s view target wanted uid reply
AnswersQuestion s view (questions.Check target claims labels uid) reply = Checks s view target claims labels uid reply

-- the reply to a command that reads the state: a line for each well-formed signature without a verdict, by certificate
-- and then in the order of its text; a line for each certificate, in the order of the fingerprints; the octets of one
-- certificate; or the commands that restore this state, each on its line
abbrev pub reading : State → Read → Reply
reading s reads.Pending = replies.Pending (length (pending_in s.held)) (map pending_line (pending_in s.held))
reading s reads.Keys =
    replies.Keys (length s.held.certs) (map (λ (e : Fpr × Certificate). key_line_of e.1) s.held.certs)
reading s (reads.Export fpr) = exported (cert_in s.held fpr)
reading s reads.Dump = replies.Dump (length (commands_of s)) (lines_of (commands_of s))

-- a call of the certificate directory, by what that returns: the reply, and the state after it
abbrev pub call_of : PolicyRows → State → ShelfCall → Served → Outcome
call_of rows s (calls.Load name) given = load rows s name given.read
call_of rows s (calls.Store fpr) given = only s (stored_from (cert_in s.held fpr) fpr given)

-- ---- what holds of every command that is read from a line

-- An amount that is wanted is at least 1, and a claim has a spelling.
abbrev pub IsWanted : ViewQuestion → Type 0
IsWanted (questions.Ask target wanted uid) = 1 ≤ wanted
IsWanted (questions.List wanted) = 1 ≤ wanted
IsWanted (questions.Explain fpr uid) = Unit {0}
IsWanted (questions.Absence target wanted uid) = 1 ≤ wanted
IsWanted (questions.Check target claims labels uid) = IsClaimSpelled claims labels

abbrev pub IsWatched : WatchCommand → Type 0
IsWatched (watching.On view target wanted uid) = 1 ≤ wanted
IsWatched watching.Off = Unit {0}

abbrev pub IsFit : Class → Type 0
IsFit (OfState (kinds.Question view question)) = IsWanted question
IsFit (Watch name command) = IsWatched command
IsFit _ = Unit {0}

-- it isn't longer than a line can be
abbrev pub IsSmall : Class → Type 0
IsSmall (OfState (kinds.Change (changes.Import octets))) = 2 * length octets ≤ 16777216
IsSmall (OfState (kinds.Question view (questions.Check target claims labels uid))) = length claims < 16777216
IsSmall _ = Unit {0}
