-- How many edges a line and the watch lines after it make, and how they change marks. No reply depends on either.
use Rattle.std.specs.Prelude.{◌≡◌, ◌≤◌, ◌⊎◌, ℕ, List, [], ◌∷◌, Option, Some, None, Result, OnOk}
use Rattle.wot_table.specs.Table.{entry_at}
use Rattle.wot_script.specs.declared.command.Command.{Command}
use Rattle.wot_plain.specs.declared.class.Class.{Class}
use Rattle.wot_plain.specs.declared.class.Class.TheVariants.{State as OfState, Cursor as OfCursor, Watch as OfWatch}
use Rattle.wot_plain.specs.declared.class.StateCommand.{StateCommand}
use Rattle.wot_plain.specs.declared.class.StateCommand.TheVariants as kinds
use Rattle.wot_plain.specs.declared.class.ViewChange.{ViewChange}
use Rattle.wot_plain.specs.declared.class.ViewChange.TheVariants as revisions
use Rattle.wot_plain.specs.declared.class.CursorCommand.{CursorCommand}
use Rattle.wot_plain.specs.declared.class.CursorCommand.TheVariants as paces
use Rattle.wot_plain.specs.declared.class.WatchCommand.{WatchCommand}
use Rattle.wot_plain.specs.declared.class.WatchCommand.TheVariants as commands
use Rattle.wot_plain.specs.Classes.{class_of}
use Rattle.wot_cache.specs.State.{Engine, OtherMarksStay, marks_at}
use Rattle.wot_cache.specs.Marks.{IsRefreshed}
use Rattle.wot_cache.specs.Views.{view_at}
use Rattle.wot_cursor.specs.Cursors.{Cursor, Cursors}
use Rattle.wot_watch.specs.Watches.{Watch, Watches}

-- no edge is made, and all marks stay
abbrev pub MakesNothing : Engine → Engine → ℕ → ℕ → Type 0
MakesNothing old new before after = (after ≡ before) × (new.marks ≡ old.marks)

-- What a command does to the marks and to the count of made edges. A question makes edges for the certificates that are
-- stale in its view, and none if the view isn't open. A view that is opened has no marks.
abbrev pub ChangesMarks : {T E : Type 0} → Result T E → List ℕ → ViewChange → Engine → Engine → ℕ → ℕ → Type 0
ChangesMarks result view (revisions.Time t) old new before after =
    MakesNothing old new before after × OnOk result (view_at old.views view ≡ None → marks_at new view ≡ [])
ChangesMarks result view (revisions.Root fpr amount) old new before after = MakesNothing old new before after
ChangesMarks result view revisions.Close old new before after = (after ≡ before) × OtherMarksStay view old new

abbrev pub MakesFor : {T E : Type 0} → Result T E → StateCommand → Engine → Engine → ℕ → ℕ → Type 0
MakesFor result (kinds.Question view question) old new before after = IsRefreshed result view old new before after
MakesFor result (kinds.View view change) old new before after = ChangesMarks result view change old new before after
MakesFor result _ old new before after = MakesNothing old new before after

abbrev pub WatchMakesMarks : {T E : Type 0} → Result T E → WatchCommand → Engine → Engine → ℕ → ℕ → Type 0
WatchMakesMarks result (commands.On view target wanted uid) old new before after =
    IsRefreshed result view old new before after
WatchMakesMarks result commands.Off old new before after = MakesNothing old new before after

-- The next piece of a cursor makes edges as a question from its view does; or none, for instance if there is no piece.
abbrev pub PieceMakes : {T E : Type 0} → Result T E → Option Cursor → Engine → Engine → ℕ → ℕ → Type 0
PieceMakes result None old new before after = MakesNothing old new before after
PieceMakes result (Some cursor) old new before after =
    IsRefreshed result cursor.view old new before after ⊎ MakesNothing old new before after

abbrev pub CursorMakes : {T E : Type 0} → Result T E → Option Cursor → CursorCommand → Engine → Engine → ℕ → ℕ → Type 0
CursorMakes result cursor (paces.Next count) old new before after = PieceMakes result cursor old new before after
CursorMakes result cursor _ old new before after = MakesNothing old new before after

abbrev pub Makes : {T E : Type 0} → Result T E → Class → Cursors → Engine → Engine → ℕ → ℕ → Type 0
Makes result (OfState command) cursors old new before after = MakesFor result command old new before after
Makes result (OfCursor name command) cursors old new before after =
    CursorMakes result (entry_at cursors name) command old new before after
Makes result (OfWatch name command) cursors old new before after =
    WatchMakesMarks result command old new before after

-- what a line makes, with these cursors; nothing if it isn't a command
abbrev pub LineMakes : {T E : Type 0} → Result T E → Option Command → Cursors → Engine → Engine → ℕ → ℕ → Type 0
LineMakes result None cursors old new before after = MakesNothing old new before after
LineMakes result (Some command) cursors old new before after =
    Makes result (class_of command) cursors old new before after

-- ---- watches

-- Asking a watch makes what a question from its view makes. No command starts a watch that wants nothing; such a one
-- isn't asked.
pub record WatchMakes {T E : Type 0}
    (result : Result T E) (watch : Watch) (old new : Engine) (before after : ℕ) : Type 0 where
  pub none : watch.wanted ≡ 0 → (new ≡ old) × (after ≡ before)
  pub asked : 1 ≤ watch.wanted → IsRefreshed result watch.view old new before after

-- Asking watches one after another: each starts from what the one before it left. No watches make nothing.
abbrev pub WatchesMake : {T E : Type 0} → Result T E → Watches → Engine → Engine → ℕ → ℕ → Type 0
WatchesMake result [] old new before after = (new ≡ old) × (after ≡ before)
WatchesMake result (entry ∷ watches) old new before after =
    (mid : Engine) × (made : ℕ) × WatchMakes result entry.1 old mid before made
    × WatchesMake result watches mid new made after

-- Reporting the watches makes nothing if their amounts are known, otherwise what asking all of them makes.
abbrev pub TellingMakes : {T E : Type 0} → Result T E → Watches → Engine → Engine → ℕ → ℕ → Type 0
TellingMakes result watches old new before after =
    ((new ≡ old) × (after ≡ before)) ⊎ WatchesMake result watches old new before after
