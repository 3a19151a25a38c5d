-- The edges that a line makes, whatever its result: the bounds hold once the view was refreshed.
use Rattle.std.proofs.Common.{◌≡◌, inl, inr, ℕ, ◌≤◌, List, length, true, false, Option, Some, None, Result, Ok, Err}
use Rattle.std.proofs.Common.{OnOk, refl, sym, ap, subst}
use Rattle.std.specs.Prelude.{is_ok}
use Rattle.wot_keyring_spec.specs.Held.{held_of}
use Rattle.wot_keyring_spec.specs.Keyring.{Keyring}
use Rattle.wot_table.specs.Table.{entry_at}
use Rattle.wot_script.specs.declared.command.Command.{Command}
use Rattle.wot_cache.specs.declared.view.View.{View}
use Rattle.wot_cache.specs.Marks.{End, IsMadeFor, IsRefreshed, end_at}
use Rattle.wot_cache.specs.State.{Engine, StaysButMarks, state_of}
use Rattle.wot_cache.specs.Views.{view_at}
use Rattle.wot_script.specs.Grammar.{command_of}
use Rattle.wot_plain.specs.declared.class.Class.{Class}
use Rattle.wot_plain.specs.declared.class.Class.TheVariants.{State as OfState, Cursor as OfCursor, Watch as OfWatch}
use Rattle.wot_plain.specs.declared.class.StateCommand.{StateCommand}
use Rattle.wot_plain.specs.declared.class.StateCommand.TheVariants as kinds
use Rattle.wot_plain.specs.declared.class.ViewChange.{ViewChange}
use Rattle.wot_plain.specs.declared.class.ViewChange.TheVariants as revisions
use Rattle.wot_plain.specs.declared.class.CursorCommand.{CursorCommand}
use Rattle.wot_plain.specs.declared.class.CursorCommand.TheVariants as paces
use Rattle.wot_plain.specs.declared.class.WatchCommand.{WatchCommand}
use Rattle.wot_plain.specs.declared.class.WatchCommand.TheVariants as commands
use Rattle.wot_plain.specs.Classes.{class_of}
use Rattle.wot_plain.specs.Lines.{command_in_line, is_silent, longest}
use Rattle.wot_cursor.specs.Cursors.{Cursor, Cursors}
use Rattle.wot_plain.specs.Made.{ChangesMarks, CursorMakes, LineMakes, Makes, MakesFor, PieceMakes, WatchMakesMarks}
use Rattle.wot_plain.proofs.StepsByKind.{heard_read}

pub same_state : (old new : Engine) → StaysButMarks old new → state_of new ≡ state_of old
same_state old new s = λ i. record { held = held_of (s.keyring i); views = s.views i }

pub stays : (old new : Engine) → new ≡ old → StaysButMarks old new
stays old new same = record {
  keyring = ap (λ (e : Engine). e.keyring) same;
  views = ap (λ (e : Engine). e.views) same;
  revisions = ap (λ (e : Engine). e.revisions) same;
}

-- ---- bounds for one result hold for another that is Ok only if the first one is

module _ {A B T E : Type 0} (r : Result A B) (s : Result T E) (less : is_ok s ≡ true → is_ok r ≡ true) where
  on_less : (P : Type 0) → OnOk r P → OnOk s P
  on_less P = by r s less
    where
      by : (r : Result A B) (s : Result T E) → (is_ok s ≡ true → is_ok r ≡ true) → OnOk r P → OnOk s P
      by r (Err e) less p = tt
      by (Ok a) (Ok b) less p = p
      by (Err e) (Ok b) less p = let never : false ≡ true = less refl in absurd cc

  made_as : (o : Option View) (k : Keyring) (old new : End) → IsMadeFor r o k old new → IsMadeFor s o k old new
  made_as None k old new m = tt
  made_as (Some v) k old new m = record {
    marks = on_less _ m.marks;
    stay = m.stay;
    least = on_less _ m.least;
    most = m.most;
    never_less = m.never_less;
  }

  pub refreshed_as : (name : List ℕ) (old new : Engine) (before after : ℕ) → IsRefreshed r name old new before after →
      IsRefreshed s name old new before after
  refreshed_as name old new before after d = record {
    stays = d.stays;
    made = made_as (view_at old.views name) old.keyring (end_at old name before) (end_at new name after) d.made;
    others = d.others;
    closed = d.closed;
  }

  change_marks_as : (view : List ℕ) (change : ViewChange) (old new : Engine) (before after : ℕ) →
      ChangesMarks r view change old new before after → ChangesMarks s view change old new before after
  change_marks_as view (revisions.Time t) old new before after m = (m.0, on_less _ m.1)
  change_marks_as view (revisions.Root fpr amount) old new before after m = m
  change_marks_as view revisions.Close old new before after m = m

  pub makes_for_as : (command : StateCommand) (old new : Engine) (before after : ℕ) →
      MakesFor r command old new before after → MakesFor s command old new before after
  makes_for_as (kinds.Question view question) old new before after m = refreshed_as view old new before after m
  makes_for_as (kinds.View view change) old new before after m = change_marks_as view change old new before after m
  makes_for_as (kinds.Change change) old new before after m = m
  makes_for_as (kinds.Read what) old new before after m = m
  makes_for_as (kinds.Shelf call) old new before after m = m

  pub watch_makes_as : (command : WatchCommand) (old new : Engine) (before after : ℕ) →
      WatchMakesMarks r command old new before after → WatchMakesMarks s command old new before after
  watch_makes_as (commands.On view target wanted uid) old new before after m =
      refreshed_as view old new before after m
  watch_makes_as commands.Off old new before after m = m

  piece_makes_as : (o : Option Cursor) (old new : Engine) (before after : ℕ) → PieceMakes r o old new before after →
      PieceMakes s o old new before after
  piece_makes_as None old new before after m = m
  piece_makes_as (Some cursor) old new before after (inl m) = inl (refreshed_as cursor.view old new before after m)
  piece_makes_as (Some cursor) old new before after (inr m) = inr m

  cursor_makes_as : (o : Option Cursor) (command : CursorCommand) (old new : Engine) (before after : ℕ) →
      CursorMakes r o command old new before after → CursorMakes s o command old new before after
  cursor_makes_as o (paces.Next count) old new before after m = piece_makes_as o old new before after m
  cursor_makes_as o (paces.Over view wanted) old new before after m = m
  cursor_makes_as o paces.Close old new before after m = m

  pub makes_as : (class : Class) (cursors : Cursors) (old new : Engine) (before after : ℕ) →
      Makes r class cursors old new before after → Makes s class cursors old new before after
  makes_as (OfState command) cursors old new before after m = makes_for_as command old new before after m
  makes_as (OfCursor name command) cursors old new before after m =
      cursor_makes_as (entry_at cursors name) command old new before after m
  makes_as (OfWatch name command) cursors old new before after m = watch_makes_as command old new before after m

  pub line_makes_as : (command : Option Command) (cursors : Cursors) (old new : Engine) (before after : ℕ) →
      LineMakes r command cursors old new before after
      → LineMakes s command cursors old new before after
  line_makes_as None cursors old new before after m = m
  line_makes_as (Some command) cursors old new before after m =
      makes_as (class_of command) cursors old new before after m

-- nothing is made if the view isn't open, whatever the reply
pub refreshed_unopened : {A B T E : Type 0} (r : Result A B) (s : Result T E) (name : List ℕ) (old new : Engine)
    (before after : ℕ)
    → view_at old.views name ≡ None → IsRefreshed r name old new before after → IsRefreshed s name old new before after
refreshed_unopened r s name old new before after none d = record {
  stays = d.stays;
  made = subst (λ (o : Option View). IsMadeFor s o old.keyring (end_at old name before) (end_at new name after))
      (sym none) tt;
  others = d.others;
  closed = d.closed;
}

pub refreshed_fault : {A B T E : Type 0} (r : Result A B) (e : E) (name : List ℕ) (old new : Engine) (before after : ℕ)
    → IsRefreshed r name old new before after → IsRefreshed {T = T} {E = E} (Err e) name old new before after
refreshed_fault r e name old new before after d = refreshed_as r (Err e) (λ ok. absurd cc) name old new before after d

-- ---- lines

module _ {T E : Type 0} (s : Result T E) (line : List ℕ) where
  pub makes_heard : (cursors : Cursors) (old new : Engine) (before after : ℕ) → length line ≤ longest →
      is_silent line ≡ false
      → LineMakes s (command_of line) cursors old new before after →
      LineMakes s (command_in_line line) cursors old new before after
  makes_heard cursors old new before after short loud m =
      subst (λ (o : Option Command). LineMakes s o cursors old new before after) (sym (heard_read line short loud)) m
