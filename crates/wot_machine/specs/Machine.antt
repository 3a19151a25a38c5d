-- What contracts see of a machine.
use Rattle.std.specs.Prelude.{◌≡◌, ◌≤◌, ◌+◌, ℕ, Bool, true, false, Option, None, Some}
use Rattle.wot_types.specs.Limits.{standard_limits}
use Rattle.wot_keyring_spec.specs.Import.{IsOneChange}
use Rattle.wot_cache.specs.State.{Engine, StaysButMarks, state_of}
use Rattle.wot_cursor.specs.Cursors.{Cursors}
use Rattle.wot_watch.specs.Watches.{Watches}
use Rattle.wot_command.specs.Lasting.{removes}
use Rattle.wot_machine.specs.declared.dispatch.Inner.{Inner}
use Rattle.wot_script.specs.declared.reply.Reply.{Reply}
use Rattle.wot_plain.specs.declared.class.Class.{Class}
use Rattle.wot_plain.specs.declared.class.Class.TheVariants.{State as OfState, Cursor as OfCursor, Watch as OfWatch}
use Rattle.wot_plain.specs.declared.class.CursorCommand.TheVariants as paces
use Rattle.wot_plain.specs.declared.class.WatchCommand.TheVariants as commands
use Rattle.wot_plain.specs.declared.draft.CursorMove.{CursorMove}
use Rattle.wot_plain.specs.Pacing.{Paces, settled}
use Rattle.wot_plain.specs.Session.{Session, watched, session_of}

-- its engine, cursors and watches, and the number of edges made for all its questions
pub record Machine : Type 0 where
  pub engine : Engine
  pub cursors : Cursors
  pub watches : Watches
  pub made : ℕ

-- everything that it keeps
abbrev pub kept : Machine → Session
kept m = watched (session_of m.engine m.cursors) m.watches

-- only the engine's marks may change
abbrev pub StaysKept : Machine → Machine → Type 0
StaysKept old new =
    StaysButMarks old.engine new.engine × (new.cursors ≡ old.cursors) × (new.watches ≡ old.watches)

-- There is no move; or some command, in just this state, leaves the cursors as they are after the move.
abbrev pub IsDue : Machine → Option CursorMove → Type 0
IsDue m None = Unit {0}
IsDue m (Some moved) =
    (class : Class) × (reply : Reply) × Paces (kept m) class reply (settled (Some moved) m.cursors)

-- what contracts see of its parts
abbrev pub machine_of : Inner → Machine
machine_of p = record { engine = p.engine; cursors = p.cursors; watches = p.watches; made = p.steps.made }

-- whether a command only removes a certificate, a verdict, a view, a cursor or a watch, which takes no memory
abbrev pub is_removal : Class → Bool
is_removal (OfState command) = removes command
is_removal (OfCursor name paces.Close) = true
is_removal (OfWatch name commands.Off) = true
is_removal _ = false

-- What a line did to the engine's limits and counts: what is held, and the views, changed at most once. If the state is
-- unchanged, so are the revisions of the views.
pub record RunsOnce (old new : Engine) : Type 0 where
  pub standard : new.keyring.limits ≡ standard_limits
  pub counted : IsOneChange old.keyring new.keyring
  pub turned : new.revisions.count ≤ old.revisions.count + 1
  pub still : state_of new ≡ state_of old → new.revisions ≡ old.revisions
