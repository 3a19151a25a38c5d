-- The pieces of a cursor, concatenated: since it began they are what `list` replied then, from the first binding on.
use Rattle.std.specs.Prelude.{◌≡◌, ◌≢◌, ◌≤◌, ℕ, nat_lt, ◌&&◌, Bool, true, false, if◌then◌else◌, Option, Some, None}
use Rattle.std.specs.Prelude.{List, [], ◌∷◌, ◌++◌, length, flat_map}
use Rattle.std.specs.List.{list_any}
use Rattle.wot_policy.specs.declared.rows.PolicyRows.{PolicyRows}
use Rattle.wot_script.specs.declared.command.Command.{Command}
use Rattle.wot_script.specs.declared.command.Command.TheVariants.{CursorOver, CursorNext}
use Rattle.wot_reply_lines.specs.declared.lines.BindLine.{BindLine}
use Rattle.wot_script.specs.declared.reply.Reply.{Reply}
use Rattle.wot_script.specs.declared.reply.Reply.TheVariants as replies
use Rattle.wot_certd.specs.World.{World}
use Rattle.wot_cache.specs.State.{State}
use Rattle.wot_cache.specs.Views.{view_at}
use Rattle.wot_table.specs.Table.{is_name}
use Rattle.wot_plain.specs.declared.class.Class.{Class}
use Rattle.wot_plain.specs.declared.class.Class.TheVariants.{Cursor as OfCursor}
use Rattle.wot_plain.specs.declared.class.CursorCommand.TheVariants as paces
use Rattle.wot_plain.specs.Classes.{class_of}
use Rattle.wot_plain.specs.Lines.{command_in_line}
use Rattle.wot_plain.specs.LineStep.{LineStep}
use Rattle.wot_plain.specs.Listing.{Lists}
use Rattle.wot_plain.specs.Pacing.{stamps_in}
use Rattle.wot_plain.specs.Scene.{Scene, Step, opening}
use Rattle.wot_plain.specs.Served.{Served}
use Rattle.wot_plain.specs.Transcript.{Run}
use Rattle.wot_plain.specs.Session.{Session}
use Rattle.wot_laws.specs.Exchanges.{Exchange, Passes}
use Rattle.wot_laws.specs.Numbers.{DoNumbersDiffer}

-- ---- the pieces of a cursor

-- the number of bindings asked for, and the bindings returned
pub record Given : Type 0 where
  pub asked : ℕ
  pub binds : List BindLine

abbrev pub given_by : ℕ → Option Reply → List Given
given_by asked (Some (replies.Piece size binds)) = record { asked = asked; binds = binds } ∷ []
given_by asked reply = []

-- the piece of this cursor in the reply to a command, if it is one
abbrev pub given_to : List ℕ → Class → Option Reply → List Given
given_to name (OfCursor other (paces.Next asked)) reply = if is_name name other then given_by asked reply else []
given_to name _ reply = []

abbrev pub given_in : List ℕ → Option Command → Option Reply → List Given
given_in name None reply = []
given_in name (Some command) reply = given_to name (class_of command) reply

abbrev pub pieces_in : List ℕ → List Exchange → List Given
pieces_in name exchanges = flat_map (λ (e : Exchange). given_in name (command_in_line e.line) e.reply) exchanges

abbrev pub is_done : Option Reply → Bool
is_done (Some replies.Done) = true
is_done reply = false

-- whether the command restarted or closed this cursor
abbrev pub is_restart_by : List ℕ → Class → Option Reply → Bool
is_restart_by name (OfCursor other (paces.Over view wanted)) reply = is_name name other && is_done reply
is_restart_by name (OfCursor other paces.Close) reply = is_name name other && is_done reply
is_restart_by name _ reply = false

abbrev pub is_restart : List ℕ → Option Command → Option Reply → Bool
is_restart name None reply = false
is_restart name (Some command) reply = is_restart_by name (class_of command) reply

abbrev pub has_restart : List ℕ → List Exchange → Bool
has_restart name exchanges = list_any (λ (e : Exchange). is_restart name (command_in_line e.line) e.reply) exchanges

-- ---- the law

-- From a fresh machine, lines lead to a state in which `cursor C over V N` gets the reply `ok`. These exchanges follow,
-- with any lines except those that restart or close the cursor.
pub record Since
    (rows : PolicyRows) (name view : List ℕ) (wanted : ℕ) (begun : Scene) (exchanges : List Exchange) (last : Scene)
    : Type 0 where
  pub world : World
  pub lines : List (List ℕ)
  pub reported : List Reply
  pub reached : Run rows (opening world) lines reported begun
  pub line : List ℕ
  pub over : command_in_line line ≡ Some (CursorOver name view wanted)
  pub mid : Scene
  pub behind : List Reply
  pub begins : Step rows begun line (Some replies.Done) behind mid
  pub passes : Passes rows mid exchanges last
  pub stays : has_restart name exchanges ≡ false

-- the pieces concatenated, and whether one was shorter than asked for
abbrev pub joined : List Given → List BindLine
joined given = flat_map (λ (g : Given). g.binds) given

abbrev pub has_end : List Given → Bool
has_end given = list_any (λ (g : Given). nat_lt (length g.binds) g.asked) given

-- The reply to `list V N` in this state begins with the concatenated pieces. If one was shorter than asked for, the
-- reply has nothing more.
pub record AreOfList (s : State) (view : List ℕ) (wanted : ℕ) (given : List Given) : Type 0 where
  pub size : ℕ
  pub binds : List BindLine
  pub rest : List BindLine
  pub list : Lists s (view_at s.views view) wanted (replies.List size binds)
  pub parts : binds ≡ joined given ++ rest
  pub whole : has_end given ≡ true → rest ≡ []

-- All pieces of a cursor since it began are from the list in the state in which it began.
abbrev pub PiecesJoin : PolicyRows → Type 0
PiecesJoin rows =
    (name view : List ℕ) (wanted : ℕ) (begun : Scene) (exchanges : List Exchange) (last : Scene)
    → Since rows name view wanted begun exchanges last
    → AreOfList begun.whole.state view wanted (pieces_in name exchanges)

-- ---- other replies to a cursor

-- the two reported numbers are the old and the current one, and they differ
pub record Differs (was now told_was told_now : ℕ) : Type 0 where
  pub then_is : told_was ≡ was
  pub now_is : told_now ≡ now
  pub other : told_was ≢ told_now

-- The reply to `next K`: a piece of at most K bindings, if both numbers are still those of the beginning; stale, with
-- the number of the beginning and the current one; or the view isn't open.
abbrev pub IsNext : Session → Session → List ℕ → ℕ → Reply → Type 0
IsNext begun now view count (replies.Piece size binds) =
    (stamps_in now view ≡ stamps_in begun view) × (size ≡ length binds) × (length binds ≤ count)
IsNext begun now view count (replies.StaleKeyring was is) = Differs begun.changes now.changes was is
IsNext begun now view count (replies.StaleView was is) =
    Differs (stamps_in begun view).view (stamps_in now view).view was is
IsNext begun now view count replies.View = view_at now.state.views view ≡ None
IsNext begun now view count _ = ⊥

-- A cursor that was neither restarted nor closed gets such a reply.
abbrev pub NextsAreTold : PolicyRows → Type 0
NextsAreTold rows =
    (name view : List ℕ) (wanted : ℕ) (begun : Scene) (exchanges : List Exchange) (last : Scene)
    → Since rows name view wanted begun exchanges last
    → (line : List ℕ) (count : ℕ) (reply : Reply) (reported : List Reply)
    (new : Scene) → command_in_line line ≡ Some (CursorNext name count) → Step rows last line (Some reply) reported new
    → IsNext begun.whole last.whole view count reply

-- this holds of every reply in every state
abbrev pub StaleNumbersDiffer : PolicyRows → Type 0
StaleNumbersDiffer rows =
    (old : Session) (line : List ℕ) (given : Served) (reply : Reply) (new : Session)
    → LineStep rows old line given (Some reply) new → DoNumbersDiffer reply
