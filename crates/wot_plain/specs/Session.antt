-- Everything that lasts from one line to the next: the state, the count of its changes, cursors and watches.
use Rattle.std.specs.Prelude.{◌≡◌, ◌≢◌, ◌⊎◌, ◌+◌, ℕ, List, []}
use Rattle.wot_cache.specs.State.{Engine, State, start, state_of}
use Rattle.wot_cache.specs.Revisions.{IsOneClosing, IsOneRevision, Revisions, no_revisions}
use Rattle.wot_cache.specs.Views.{Views}
use Rattle.wot_cursor.specs.Cursors.{Cursors}
use Rattle.wot_watch.specs.Watches.{Watches}
use Rattle.wot_plain.specs.declared.class.Class.{Class}
use Rattle.wot_plain.specs.declared.class.Class.TheVariants.{State as OfState}
use Rattle.wot_plain.specs.declared.class.StateCommand.TheVariants as kinds
use Rattle.wot_plain.specs.declared.class.ViewChange.TheVariants as alterings

-- the state, the count of changes, the turns of views, and cursors and watches by name
pub record Session : Type 0 where
  pub state : State
  pub changes : ℕ
  pub revisions : Revisions
  pub cursors : Cursors
  pub watches : Watches

-- before the first line
abbrev pub beginning : Session
beginning = record { state = start; changes = 0; revisions = no_revisions; cursors = []; watches = [] }

-- with this engine, these cursors, and no watches
abbrev pub session_of : Engine → Cursors → Session
session_of engine cursors = record {
  state = state_of engine;
  changes = engine.keyring.changes;
  revisions = engine.revisions;
  cursors = cursors;
  watches = [];
}

-- with the watches replaced
abbrev pub watched : Session → Watches → Session
watched s watches = record s { watches = watches }

-- What is held and the count of changes are unchanged; or what is held changed, and the count rose by one.
abbrev pub IsCounted : Session → Session → Type 0
IsCounted old new =
    ((new.state.held ≡ old.state.held) × (new.changes ≡ old.changes))
    ⊎ ((new.state.held ≢ old.state.held) × (new.changes ≡ old.changes + 1))

-- What a command does to the turns of views: it opens or changes a view, closes one, or does nothing to them.
pub data Turning : Type 0 where
  turning : List ℕ → Turning
  closing : List ℕ → Turning
  leaving : Turning

abbrev pub turning_of : Class → Turning
turning_of (OfState (kinds.View view alterings.Close)) = closing view
turning_of (OfState (kinds.View view change)) = turning view
turning_of _ = leaving

-- how it changes them, by what it did to the view
abbrev pub AreTurned : Turning → Views → Revisions → Views → Revisions → Type 0
AreTurned (turning view) old before new after = IsOneRevision view old before new after
AreTurned (closing view) old before new after = IsOneClosing view old before new after
AreTurned leaving old before new after = after ≡ before

abbrev pub RevisedBy : Class → Views → Revisions → Views → Revisions → Type 0
RevisedBy class old before new after = AreTurned (turning_of class) old before new after
