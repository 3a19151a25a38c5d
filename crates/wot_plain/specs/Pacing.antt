-- The commands of cursors: a list in pieces, with lines of other clients in between.
use Rattle.std.specs.Prelude.{◌≡◌, ◌==◌, ℕ, Bool, true, false, MatchBool, List, [], ◌∷◌, length, map}
use Rattle.std.specs.Prelude.{Option, Some, None, Result, IfOk, IfSome, is_some}
use Rattle.std.specs.Option.{unwrap_or}
use Rattle.wot_types.specs.declared.place.Place.{Place}
use Rattle.wot_table.specs.Table.{entry_at, with_entry, without_entry}
use Rattle.wot_plain.specs.declared.class.Class.{Class}
use Rattle.wot_plain.specs.declared.class.Class.TheVariants.{Cursor as OfCursor}
use Rattle.wot_plain.specs.declared.class.CursorCommand.{CursorCommand}
use Rattle.wot_plain.specs.declared.class.CursorCommand.TheVariants as paces
use Rattle.wot_script.specs.declared.reply.Reply.{Reply}
use Rattle.wot_script.specs.declared.reply.Reply.TheVariants as replies
use Rattle.wot_keyring_spec.specs.Keyring.{certificates_in}
use Rattle.wot_network.specs.Net.{network_for}
use Rattle.wot_network.specs.Roads.{present_of}
use Rattle.wot_answers.specs.declared.parts.Parts.{Parts}
use Rattle.wot_cache.specs.declared.view.View.{View}
use Rattle.wot_cache.specs.Revisions.{revision_at}
use Rattle.wot_cache.specs.Views.{view_at}
use Rattle.wot_cursor.specs.Age.{age_of}
use Rattle.wot_cursor.specs.Cursors.{Cursor, Cursors, begun, is_full}
use Rattle.wot_cursor.specs.Cursors.{with_place}
use Rattle.wot_cursor.specs.declared.stamps.Age.{Age}
use Rattle.wot_cursor.specs.declared.stamps.Age.TheVariants as ages
use Rattle.wot_cursor.specs.declared.stamps.Stamps.{Stamps}
use Rattle.wot_explain.specs.declared.bind.Bind.{Bind}
use Rattle.wot_explain.specs.Listing.{pairs_in}
use Rattle.wot_explain.specs.Piece.{IsThePiece, piece_of}
use Rattle.wot_plain.specs.declared.draft.CursorMove.{CursorMove}
use Rattle.wot_plain.specs.declared.draft.DraftReply.{DraftReply}
use Rattle.wot_plain.specs.Listing.{AreBindings, bind_line}
use Rattle.wot_plain.specs.Session.{Session}

-- what a list from a view depends on: the count of changes, and the view's turn
abbrev pub stamps_in : Session → List ℕ → Stamps
stamps_in s view = record { keyring = s.changes; view = unwrap_or (revision_at s.revisions view) 0 }

-- the reply and the cursors are these
abbrev pub Leaves : Reply → Cursors → Reply → Cursors → Type 0
Leaves drafted left reply cursors = (reply ≡ drafted) × (cursors ≡ left)

-- ---- `cursor C over V N`

-- A cursor begins from an open view, or restarts, unless the number of cursors is at its limit.
abbrev pub Begins : Session → List ℕ → List ℕ → ℕ → Option View → Reply → Cursors → Type 0
Begins s name view wanted None reply cursors = Leaves replies.View s.cursors reply cursors
Begins s name view wanted (Some there) reply cursors =
    MatchBool (is_full s.cursors name) (Leaves replies.FullCursors s.cursors reply cursors)
    (Leaves replies.Done (with_entry s.cursors name (begun view wanted (stamps_in s view))) reply cursors)

-- ---- `cursor C next K`

abbrev pub bind_place : Bind → Place
bind_place bind = record { fpr = bind.fpr; uid = bind.uid }

-- the place of the last of these bindings
abbrev pub last_place : Bind → List Bind → Place
last_place bind [] = bind_place bind
last_place bind (next ∷ binds) = last_place next binds

-- The cursor moves to the last of these bindings, or stays if there is none.
abbrev pub behind : Cursors → List ℕ → List Bind → Cursors
behind cursors name [] = cursors
behind cursors name (bind ∷ binds) = with_place cursors name (last_place bind binds)

-- a line for each binding of the piece
abbrev pub piece : List Bind → Reply
piece binds = replies.Piece (length binds) (map bind_line binds)

-- The first `count` bindings of the list after the cursor's place, or all that are left. Nothing if the cursor wants
-- nothing, which no command asks for.
abbrev pub GivesPiece : Session → List ℕ → ℕ → Cursor → View → Reply → Cursors → Type 0
GivesPiece s name count cursor view reply cursors =
    MatchBool (cursor.wanted == 0) (Leaves (piece []) s.cursors reply cursors)
    ((all : List Bind) × AreBindings s.state view cursor.wanted all
    × Leaves (piece (piece_of cursor.place count all)) (behind s.cursors name (piece_of cursor.place count all))
    reply cursors)

-- the piece, if nothing changed since the beginning; otherwise the first number that differs
abbrev pub GoesBy : Age → Session → List ℕ → ℕ → Cursor → View → Reply → Cursors → Type 0
GoesBy ages.Same s name count cursor view reply cursors = GivesPiece s name count cursor view reply cursors
GoesBy (ages.Keyring was now) s name count cursor view reply cursors =
    Leaves (replies.StaleKeyring was now) s.cursors reply cursors
GoesBy (ages.View was now) s name count cursor view reply cursors =
    Leaves (replies.StaleView was now) s.cursors reply cursors

abbrev pub GoesFrom : Option View → Session → List ℕ → ℕ → Cursor → Reply → Cursors → Type 0
GoesFrom None s name count cursor reply cursors = Leaves replies.View s.cursors reply cursors
GoesFrom (Some view) s name count cursor reply cursors =
    GoesBy (age_of cursor.stamps (stamps_in s cursor.view)) s name count cursor view reply cursors

-- refused if there is no such cursor, then if its view isn't open
abbrev pub Goes : Option Cursor → Session → List ℕ → ℕ → Reply → Cursors → Type 0
Goes None s name count reply cursors = Leaves replies.NoCursor s.cursors reply cursors
Goes (Some cursor) s name count reply cursors =
    GoesFrom (view_at s.state.views cursor.view) s name count cursor reply cursors

-- the cursors after this one moved
abbrev pub settled : Option CursorMove → Cursors → Cursors
settled None cursors = cursors
settled (Some moved) cursors = with_place cursors moved.cursor moved.place

-- P holds of the reply, and of the cursors once the reply is written
abbrev pub OnTold : {E : Type 0} → Result DraftReply E → Cursors → (Reply → Cursors → Type 0) → Type 0
OnTold result cursors P = IfOk result (λ drafted. P drafted.reply (settled drafted.moved cursors))

-- the piece, from the cursor's view if it is open
abbrev pub ReturnsPiece : Session → List ℕ → ℕ → Cursor → Reply → Cursors → Type 0
ReturnsPiece s name count cursor reply cursors =
    IfSome (view_at s.state.views cursor.view) (λ view. GivesPiece s name count cursor view reply cursors)

-- The reply is the piece of the list over these parts, and the cursor moves behind it.
abbrev pub TellsPiece : Parts → List ℕ → ℕ → Cursor → DraftReply → Type 0
TellsPiece parts name count cursor drafted =
    (binds : List Bind)
    × IsThePiece (network_for (present_of parts.roads)) parts.roots.now cursor.wanted
    (pairs_in (certificates_in parts.keyring.now)) cursor.place count binds
    × (drafted.reply ≡ piece binds) × ((cursors : Cursors) → settled drafted.moved cursors ≡ behind cursors name binds)

-- the reply to a line and the cursors once it is written; None for a silent line
abbrev pub reply_in : Option DraftReply → Option Reply
reply_in None = None
reply_in (Some drafted) = Some drafted.reply

abbrev pub left_by : Option DraftReply → Cursors → Cursors
left_by None cursors = cursors
left_by (Some drafted) cursors = settled drafted.moved cursors

-- whether it is a command of a cursor
abbrev pub is_pacing : Class → Bool
is_pacing (OfCursor name command) = true
is_pacing _ = false

-- ---- `cursor C close`

abbrev pub Ends : Session → List ℕ → Reply → Cursors → Type 0
Ends s name reply cursors =
    MatchBool (is_some (entry_at s.cursors name)) (Leaves replies.Done (without_entry s.cursors name) reply cursors)
    (Leaves replies.NoCursor s.cursors reply cursors)

-- ---- all commands

-- what a command of a cursor does to the cursors, and its reply
abbrev pub PacesCursor : Session → List ℕ → CursorCommand → Reply → Cursors → Type 0
PacesCursor s name (paces.Over view wanted) reply cursors =
    Begins s name view wanted (view_at s.state.views view) reply cursors
PacesCursor s name (paces.Next count) reply cursors = Goes (entry_at s.cursors name) s name count reply cursors
PacesCursor s name paces.Close reply cursors = Ends s name reply cursors

-- What a command does to the cursors, and the reply if it is a command of a cursor. No other command changes them.
abbrev pub Paces : Session → Class → Reply → Cursors → Type 0
Paces s (OfCursor name command) reply cursors = PacesCursor s name command reply cursors
Paces s _ reply cursors = cursors ≡ s.cursors
