-- The commands of cursors: their replies are printable, and each has only one.
use Rattle.std.proofs.Common.{◌≡◌, ℕ, ◌-◌, ◌≤◌, ◌==◌, Bool, true, false, List, [], ◌∷◌, length, Option, Some, None}
use Rattle.std.proofs.Common.{refl, sym, ap, subst, ◌∙◌, arith}
use Rattle.std.specs.Prelude.{MatchBool, is_some}
use Rattle.std.specs.List.{slice_get}
use Rattle.std.proofs.lemmas.Option.{same_Some}
use Rattle.std.proofs.lemmas.Bool.{eqb-false}
use Rattle.wot_types.specs.declared.fpr.Fpr.{Fpr}
use Rattle.wot_types.specs.declared.place.Place.{Place}
use Rattle.wot_table.specs.Table.{entry_at, with_entry, without_entry}
use Rattle.wot_script.specs.declared.reply.Reply.{Reply}
use Rattle.wot_script.specs.declared.reply.Reply.TheVariants as replies
use Rattle.wot_script.specs.Replies.{HasWords}
use Rattle.wot_edge.specs.Record.{IsRecord, Record}
use Rattle.wot_network.specs.Records.{record_of}
use Rattle.wot_cache.specs.declared.view.View.{View}
use Rattle.wot_cache.specs.State.{IsState, State}
use Rattle.wot_cache.specs.Revisions.{Revisions}
use Rattle.wot_cache.specs.Views.{Views, view_at}
use Rattle.wot_cursor.specs.Age.{age_of}
use Rattle.wot_cursor.specs.Cursors.{Cursor, Cursors, begun, is_full, with_place}
use Rattle.wot_cursor.specs.declared.stamps.Age.{Age}
use Rattle.wot_watch.specs.Watches.{Watches}
use Rattle.wot_cursor.specs.declared.stamps.Age.TheVariants as ages
use Rattle.wot_explain.specs.declared.bind.Bind.{Bind}
use Rattle.wot_explain.specs.Listing.{IsListed, Pair, pairs_in}
use Rattle.wot_explain.specs.Piece.{piece_of}
use Rattle.wot_policy.specs.declared.rows.PolicyRows.{PolicyRows}
use Rattle.wot_plain.specs.declared.class.Class.{Class}
use Rattle.wot_plain.specs.declared.class.Class.TheVariants.{State as OfState, Cursor as OfCursor, Watch as OfWatch}
use Rattle.wot_plain.specs.declared.class.CursorCommand.TheVariants as paces
use Rattle.wot_plain.specs.LineStep.{StateStep}
use Rattle.wot_plain.specs.Listing.{AreBindings}
use Rattle.wot_plain.specs.Pacing.{Begins, Ends, GivesPiece, Goes, GoesBy, GoesFrom, Leaves, Paces, behind, is_pacing}
use Rattle.wot_plain.specs.Pacing.{last_place, piece, bind_place, stamps_in}
use Rattle.wot_plain.specs.Entry.{unused, use_by}
use Rattle.wot_plain.specs.Served.{Served}
use Rattle.wot_plain.specs.Session.{RevisedBy, Session, watched}

-- ---- other commands

-- a claim that holds of each command of a cursor
pub paced_cases : (P : Class → Type 0)
    → ((name view : List ℕ) (wanted : ℕ) → P (OfCursor name (paces.Over view wanted)))
    → ((name : List ℕ) (count : ℕ) → P (OfCursor name (paces.Next count)))
    → ((name : List ℕ) → P (OfCursor name paces.Close))
    → (class : Class) → is_pacing class ≡ true → P class
paced_cases P over next close (OfCursor name (paces.Over view wanted)) e = over name view wanted
paced_cases P over next close (OfCursor name (paces.Next count)) e = next name count
paced_cases P over next close (OfCursor name paces.Close) e = close name
paced_cases P over next close (OfState done) e = absurd (cc e)
paced_cases P over next close (OfWatch name done) e = absurd (cc e)

-- the other commands leave the cursors
plain_is : (s : Session) (class : Class) (reply : Reply) (cursors : Cursors) → is_pacing class ≡ false →
    Paces s class reply cursors ≡ (cursors ≡ s.cursors)
plain_is s (OfState done) reply cursors e = refl
plain_is s (OfWatch name done) reply cursors e = refl
plain_is s (OfCursor name done) reply cursors e = absurd (cc e)

pub paces_plain : (s : Session) (class : Class) (reply : Reply) → is_pacing class ≡ false →
    Paces s class reply s.cursors
paces_plain s class reply e = subst (λ (P : Type 0). P) (sym (plain_is s class reply s.cursors e)) refl

pub plain_paces : (s : Session) (class : Class) (reply : Reply) (cursors : Cursors) → is_pacing class ≡ false →
    Paces s class reply cursors → cursors ≡ s.cursors
plain_paces s class reply cursors e p = subst (λ (P : Type 0). P) (plain_is s class reply cursors e) p

-- ---- watches don't matter to cursors

begins_watched : (s : Session) (watches : Watches) (name view : List ℕ) (wanted : ℕ) (o : Option View) (reply : Reply)
    (cursors : Cursors) → Begins s name view wanted o reply cursors
    → Begins (watched s watches) name view wanted o reply cursors
begins_watched s watches name view wanted None reply cursors p = p
begins_watched s watches name view wanted (Some there) reply cursors p = p

by_watched : (s : Session) (watches : Watches) (age : Age) (name : List ℕ) (count : ℕ) (cursor : Cursor) (view : View)
    (reply : Reply) (cursors : Cursors)
    → GoesBy age s name count cursor view reply cursors → GoesBy age (watched s watches) name count cursor view reply
    cursors
by_watched s watches ages.Same name count cursor view reply cursors p = p
by_watched s watches (ages.Keyring was now) name count cursor view reply cursors p = p
by_watched s watches (ages.View was now) name count cursor view reply cursors p = p

from_watched : (s : Session) (watches : Watches) (o : Option View) (name : List ℕ) (count : ℕ) (cursor : Cursor)
    (reply : Reply) (cursors : Cursors)
    → GoesFrom o s name count cursor reply cursors → GoesFrom o (watched s watches) name count cursor reply cursors
from_watched s watches None name count cursor reply cursors p = p
from_watched s watches (Some view) name count cursor reply cursors p =
    by_watched s watches (age_of cursor.stamps (stamps_in s cursor.view)) name count cursor view reply cursors p

goes_watched : (s : Session) (watches : Watches) (o : Option Cursor) (name : List ℕ) (count : ℕ) (reply : Reply)
    (cursors : Cursors) → Goes o s name count reply cursors
    → Goes o (watched s watches) name count reply cursors
goes_watched s watches None name count reply cursors p = p
goes_watched s watches (Some cursor) name count reply cursors p =
    from_watched s watches (view_at s.state.views cursor.view) name count cursor reply cursors p

pub paces_watched : (s : Session) (watches : Watches) (class : Class) (reply : Reply) (cursors : Cursors) →
    is_pacing class ≡ true → Paces s class reply cursors
    → Paces (watched s watches) class reply cursors
paces_watched s watches class reply cursors e =
    paced_cases (λ (c : Class). Paces s c reply cursors → Paces (watched s watches) c reply cursors)
    (λ name view wanted. begins_watched s watches name view wanted (view_at s.state.views view) reply cursors)
    (λ name count. goes_watched s watches (entry_at s.cursors name) name count reply cursors) (λ name p. p) class e

-- ---- commands of cursors don't change the state, the turns and the certificate directory

pub state_paced : (rows : PolicyRows) (old : State) (class : Class) (given : Served) (reply : Reply) →
    is_pacing class ≡ true → StateStep rows old class given reply old
state_paced rows old class given reply e =
    paced_cases (λ (c : Class). StateStep rows old c given reply old) (λ name view wanted. refl) (λ name count. refl)
    (λ name. refl) class e

pub turns_paced : (class : Class) (old new : Views) (before after : Revisions) → is_pacing class ≡ true →
    after ≡ before → RevisedBy class old before new after
turns_paced class old new before after e same =
    paced_cases (λ (c : Class). RevisedBy c old before new after) (λ name view wanted. same) (λ name count. same)
    (λ name. same) class e

pub uncalled_paced : (class : Class) → is_pacing class ≡ true → use_by class ≡ unused
uncalled_paced class e =
    paced_cases (λ (c : Class). use_by c ≡ unused) (λ name view wanted. refl) (λ name count. refl)
    (λ name. refl) class e

-- ---- printable replies

left_worded : (told reply : Reply) (left cursors : Cursors) → HasWords told → Leaves told left reply cursors →
    HasWords reply
left_worded told reply left cursors words l = subst HasWords (sym l.0) words

if_worded : (b : Bool) (P Q : Type 0) (reply : Reply) → (P → HasWords reply) → (Q → HasWords reply) → MatchBool b P Q →
    HasWords reply
if_worded true P Q reply f g p = f p
if_worded false P Q reply f g q = g q

begins_worded : (s : Session) (name view : List ℕ) (wanted : ℕ) (o : Option View) (reply : Reply) (cursors : Cursors) →
    Begins s name view wanted o reply cursors → HasWords reply
begins_worded s name view wanted None reply cursors l = left_worded replies.View reply s.cursors cursors tt l
begins_worded s name view wanted (Some there) reply cursors l =
    if_worded (is_full s.cursors name) _ _ reply (left_worded replies.FullCursors reply s.cursors cursors tt)
    (left_worded replies.Done reply (with_entry s.cursors name (begun view wanted (stamps_in s view))) cursors tt) l

gives_worded : (s : Session) (name : List ℕ) (count : ℕ) (cursor : Cursor) (view : View) (reply : Reply)
    (cursors : Cursors)
    → GivesPiece s name count cursor view reply cursors → HasWords reply
gives_worded s name count cursor view reply cursors g =
    if_worded (cursor.wanted == 0) _ _ reply (left_worded (piece []) reply s.cursors cursors tt)
    (λ p. left_worded (piece (piece_of cursor.place count p.0)) reply _ cursors tt p.2) g

by_worded : (age : Age) (s : Session) (name : List ℕ) (count : ℕ) (cursor : Cursor) (view : View) (reply : Reply)
    (cursors : Cursors)
    → GoesBy age s name count cursor view reply cursors → HasWords reply
by_worded ages.Same s name count cursor view reply cursors g = gives_worded s name count cursor view reply cursors g
by_worded (ages.Keyring was now) s name count cursor view reply cursors g =
    left_worded (replies.StaleKeyring was now) reply s.cursors cursors tt g
by_worded (ages.View was now) s name count cursor view reply cursors g =
    left_worded (replies.StaleView was now) reply s.cursors cursors tt g

from_worded : (o : Option View) (s : Session) (name : List ℕ) (count : ℕ) (cursor : Cursor) (reply : Reply)
    (cursors : Cursors)
    → GoesFrom o s name count cursor reply cursors → HasWords reply
from_worded None s name count cursor reply cursors g = left_worded replies.View reply s.cursors cursors tt g
from_worded (Some view) s name count cursor reply cursors g = by_worded (age_of cursor.stamps (stamps_in s cursor.view))
    s name count cursor view reply cursors g

goes_worded : (o : Option Cursor) (s : Session) (name : List ℕ) (count : ℕ) (reply : Reply) (cursors : Cursors) →
    Goes o s name count reply cursors → HasWords reply
goes_worded None s name count reply cursors g = left_worded replies.NoCursor reply s.cursors cursors tt g
goes_worded (Some cursor) s name count reply cursors g = from_worded (view_at s.state.views cursor.view) s name count
    cursor reply cursors g

ends_worded : (s : Session) (name : List ℕ) (reply : Reply) (cursors : Cursors) → Ends s name reply cursors →
    HasWords reply
ends_worded s name reply cursors l =
    if_worded (is_some (entry_at s.cursors name)) _ _ reply
    (left_worded replies.Done reply (without_entry s.cursors name) cursors tt)
    (left_worded replies.NoCursor reply s.cursors cursors tt) l

pub paces_worded : (s : Session) (class : Class) (reply : Reply) (cursors : Cursors) → is_pacing class ≡ true →
    Paces s class reply cursors → HasWords reply
paces_worded s class reply cursors e p =
    paced_cases (λ (c : Class). Paces s c reply cursors → HasWords reply)
    (λ name view wanted. begins_worded s name view wanted (view_at s.state.views view) reply cursors)
    (λ name count. goes_worded (entry_at s.cursors name) s name count reply cursors)
    (λ name. ends_worded s name reply cursors) class e p

-- ---- one reply

abbrev pub IsOneOf : (Reply → Cursors → Type 0) → Type 0
IsOneOf P = (r s : Reply) (m n : Cursors) → P r m → P s n → (r ≡ s) × (m ≡ n)

abbrev pub IsSomeOf : (Reply → Cursors → Type 0) → Type 0
IsSomeOf P = (r : Reply) × (m : Cursors) × P r m

leaves_one : (told : Reply) (left : Cursors) → IsOneOf (Leaves told left)
leaves_one told left r s m n p q = (p.0 ∙ sym q.0, p.1 ∙ sym q.1)

leaves_some : (told : Reply) (left : Cursors) → IsSomeOf (Leaves told left)
leaves_some told left = (told, left, (refl, refl))

if_one : (b : Bool) (P Q : Reply → Cursors → Type 0) → IsOneOf P → IsOneOf Q →
    IsOneOf (λ r m. MatchBool b (P r m) (Q r m))
if_one true P Q p q = p
if_one false P Q p q = q

if_some : (b : Bool) (P Q : Reply → Cursors → Type 0) → IsSomeOf P → (b ≡ false → IsSomeOf Q) →
    IsSomeOf (λ r m. MatchBool b (P r m) (Q r m))
if_some true P Q p q = p
if_some false P Q p q = q refl

module _
    (lawful : (s : State) (t : ℕ) (u : List ℕ) → IsState s → IsRecord (record_of s.held.certs s.held.verdicts t u))
    (list_some : (told : List ℕ → Record) (roots : List (Fpr × ℕ)) (wanted : ℕ) (pairs : List Pair) → 1 ≤ wanted →
    (binds : List Bind) × IsListed told roots wanted pairs binds)
    (list_one : (told : List ℕ → Record) (roots : List (Fpr × ℕ)) (wanted : ℕ) (pairs : List Pair) (a b : List Bind) →
    ((u : List ℕ) → IsRecord (told u))
    → IsListed told roots wanted pairs a → IsListed told roots wanted pairs b → a ≡ b)
    (s : Session)
  where
    listed_one : (name : List ℕ) (count : ℕ) (cursor : Cursor) (view : View) → IsState s.state
        → IsOneOf (λ r m. (all : List Bind) × AreBindings s.state view cursor.wanted all
        × Leaves (piece (piece_of cursor.place count all)) (behind s.cursors name (piece_of cursor.place count all)) r
        m)
    listed_one name count cursor view can r t m n p q =
        let same : p.0 ≡ q.0 =
        list_one (record_of s.state.held.certs s.state.held.verdicts view.time) view.roots cursor.wanted
        (pairs_in s.state.held.certs) p.0 q.0
        (λ u. lawful s.state view.time u can) p.1 q.1 in (
          p.2.0 ∙ ap (λ (all : List Bind). piece (piece_of cursor.place count all)) same ∙ sym q.2.0,
          p.2.1 ∙ ap (λ (all : List Bind). behind s.cursors name (piece_of cursor.place count all)) same ∙ sym q.2.1,
        )

    gives_one : (name : List ℕ) (count : ℕ) (cursor : Cursor) (view : View) → IsState s.state →
        IsOneOf (GivesPiece s name count cursor view)
    gives_one name count cursor view can = if_one (cursor.wanted == 0) (Leaves (piece []) s.cursors) _
        (leaves_one (piece []) s.cursors) (listed_one name count cursor view can)

    gives_some : (name : List ℕ) (count : ℕ) (cursor : Cursor) (view : View) →
        IsSomeOf (GivesPiece s name count cursor view)
    gives_some name count cursor view =
        if_some (cursor.wanted == 0) (Leaves (piece []) s.cursors) _ (leaves_some (piece []) s.cursors) (λ some.
        let other = eqb-false cursor.wanted 0 some in
        let all = list_some (record_of s.state.held.certs s.state.held.verdicts view.time) view.roots cursor.wanted
        (pairs_in s.state.held.certs) (omega (arith, other)) in (
          piece (piece_of cursor.place count all.0),
          behind s.cursors name (piece_of cursor.place count all.0),
          (all.0, all.1, (refl, refl)),
        ))

    by_one : (age : Age) (name : List ℕ) (count : ℕ) (cursor : Cursor) (view : View) → IsState s.state →
        IsOneOf (GoesBy age s name count cursor view)
    by_one ages.Same name count cursor view can = gives_one name count cursor view can
    by_one (ages.Keyring was now) name count cursor view can = leaves_one (replies.StaleKeyring was now) s.cursors
    by_one (ages.View was now) name count cursor view can = leaves_one (replies.StaleView was now) s.cursors

    by_some : (age : Age) (name : List ℕ) (count : ℕ) (cursor : Cursor) (view : View) →
        IsSomeOf (GoesBy age s name count cursor view)
    by_some ages.Same name count cursor view = gives_some name count cursor view
    by_some (ages.Keyring was now) name count cursor view = leaves_some (replies.StaleKeyring was now) s.cursors
    by_some (ages.View was now) name count cursor view = leaves_some (replies.StaleView was now) s.cursors

    from_one : (o : Option View) (name : List ℕ) (count : ℕ) (cursor : Cursor) → IsState s.state →
        IsOneOf (GoesFrom o s name count cursor)
    from_one None name count cursor can = leaves_one replies.View s.cursors
    from_one (Some view) name count cursor can = by_one (age_of cursor.stamps (stamps_in s cursor.view)) name count
        cursor view can

    from_some : (o : Option View) (name : List ℕ) (count : ℕ) (cursor : Cursor) →
        IsSomeOf (GoesFrom o s name count cursor)
    from_some None name count cursor = leaves_some replies.View s.cursors
    from_some (Some view) name count cursor = by_some (age_of cursor.stamps (stamps_in s cursor.view)) name count cursor
        view

    goes_one : (o : Option Cursor) (name : List ℕ) (count : ℕ) → IsState s.state → IsOneOf (Goes o s name count)
    goes_one None name count can = leaves_one replies.NoCursor s.cursors
    goes_one (Some cursor) name count can = from_one (view_at s.state.views cursor.view) name count cursor can

    goes_some : (o : Option Cursor) (name : List ℕ) (count : ℕ) → IsSomeOf (Goes o s name count)
    goes_some None name count = leaves_some replies.NoCursor s.cursors
    goes_some (Some cursor) name count = from_some (view_at s.state.views cursor.view) name count cursor

    begins_one : (name view : List ℕ) (wanted : ℕ) (o : Option View) → IsOneOf (Begins s name view wanted o)
    begins_one name view wanted None = leaves_one replies.View s.cursors
    begins_one name view wanted (Some there) =
        if_one (is_full s.cursors name) (Leaves replies.FullCursors s.cursors) _
        (leaves_one replies.FullCursors s.cursors)
        (leaves_one replies.Done (with_entry s.cursors name (begun view wanted (stamps_in s view))))

    begins_some : (name view : List ℕ) (wanted : ℕ) (o : Option View) → IsSomeOf (Begins s name view wanted o)
    begins_some name view wanted None = leaves_some replies.View s.cursors
    begins_some name view wanted (Some there) =
        if_some (is_full s.cursors name) (Leaves replies.FullCursors s.cursors) _
        (leaves_some replies.FullCursors s.cursors)
        (λ room. leaves_some replies.Done (with_entry s.cursors name (begun view wanted (stamps_in s view))))

    ends_one : (name : List ℕ) → IsOneOf (Ends s name)
    ends_one name =
        if_one (is_some (entry_at s.cursors name)) (Leaves replies.Done (without_entry s.cursors name)) _
        (leaves_one replies.Done (without_entry s.cursors name))
        (leaves_one replies.NoCursor s.cursors)

    ends_some : (name : List ℕ) → IsSomeOf (Ends s name)
    ends_some name =
        if_some (is_some (entry_at s.cursors name)) (Leaves replies.Done (without_entry s.cursors name)) _
        (leaves_some replies.Done (without_entry s.cursors name))
        (λ none. leaves_some replies.NoCursor s.cursors)

    pub paces_one : (class : Class) → is_pacing class ≡ true → IsState s.state → IsOneOf (Paces s class)
    paces_one class e can =
        paced_cases (λ (c : Class). IsOneOf (Paces s c)) (λ name view wanted. begins_one name view wanted
        (view_at s.state.views view))
        (λ name count. goes_one (entry_at s.cursors name) name count can) (λ name. ends_one name) class e

    pub paces_some : (class : Class) → is_pacing class ≡ true → IsSomeOf (Paces s class)
    paces_some class e =
        paced_cases (λ (c : Class). IsSomeOf (Paces s c)) (λ name view wanted. begins_some name view wanted
        (view_at s.state.views view))
        (λ name count. goes_some (entry_at s.cursors name) name count) (λ name. ends_some name) class e

-- ---- places

last_is : (bind : Bind) (binds : List Bind) (last : Bind) → slice_get (bind ∷ binds) (length binds) ≡ Some last →
    last_place bind binds ≡ bind_place last
last_is bind [] last e = ap bind_place (same_Some bind last e)
last_is bind (next ∷ binds) last e = last_is next binds last e

-- the cursor moves to the place of the last binding
pub behind_last : (cursors : Cursors) (name : List ℕ) (binds : List Bind) (last : Bind) →
    slice_get binds (length binds - 1) ≡ Some last
    → with_place cursors name (bind_place last) ≡ behind cursors name binds
behind_last cursors name [] last e = absurd cc
behind_last cursors name (bind ∷ binds) last e =
    let size : length (bind ∷ binds) - 1 ≡ length binds = omega arith in
    ap (with_place cursors name) (sym (last_is bind binds last (sym (ap (slice_get (bind ∷ binds)) size) ∙ e)))

pub moved_to : (cursors : Cursors) (name other : List ℕ) (place : Place) (binds : List Bind) (last : Bind) →
    other ≡ name → place.fpr ≡ last.fpr → place.uid ≡ last.uid
    → Some last ≡ slice_get binds (length binds - 1) → with_place cursors other place ≡ behind cursors name binds
moved_to cursors name other place binds last n f u e =
    let there : with_place cursors other place ≡ with_place cursors name (bind_place last) =
    λ i. with_place cursors (n i) (record { fpr = f i; uid = u i }) in
    there ∙ behind_last cursors name binds last (sym e)
