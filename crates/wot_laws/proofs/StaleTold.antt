-- If a reply says that something is stale, its two numbers differ; and only commands of watches reply with a watch's
-- amount.
use Rattle.std.proofs.Common.{◌≡◌, ℕ, Bool, true, false, List, [], Option, Some, None, refl, sym}
use Rattle.std.proofs.Common.{subst}
use Rattle.std.specs.Prelude.{MatchBool, ◌==◌, is_some}
use Rattle.wot_types.specs.declared.fpr.Fpr.{Fpr}
use Rattle.wot_policy.specs.declared.rows.PolicyRows.{PolicyRows}
use Rattle.wot_table.specs.Table.{entry_at, with_entry, without_entry}
use Rattle.wot_watch.specs.Watches as watching
use Rattle.wot_watch.specs.Watches.{Watches}
use Rattle.wot_script.specs.declared.reply.Reply.{Reply}
use Rattle.wot_script.specs.declared.reply.Reply.TheVariants as replies
use Rattle.wot_cache.specs.declared.view.View.{View}
use Rattle.wot_cache.specs.Views.{view_at}
use Rattle.wot_cursor.specs.Age.{age_of}
use Rattle.wot_cursor.specs.Cursors.{Cursor, Cursors, begun, is_full}
use Rattle.wot_cursor.specs.declared.stamps.Age.{Age}
use Rattle.wot_cursor.specs.declared.stamps.Age.TheVariants as ages
use Rattle.wot_explain.specs.Piece.{piece_of}
use Rattle.wot_plain.specs.declared.class.Class.{Class}
use Rattle.wot_plain.specs.declared.class.Class.TheVariants.{State as OfState, Cursor as OfCursor, Watch as OfWatch}
use Rattle.wot_laws.specs.Numbers.{DoNumbersDiffer}
use Rattle.wot_plain.specs.LineStep.{LineStep, CommandStep}
use Rattle.wot_plain.specs.Pacing.{Begins, Ends, GivesPiece, Goes, GoesBy, GoesFrom, Leaves, Paces, behind, is_pacing}
use Rattle.wot_plain.specs.Pacing.{piece, stamps_in}
use Rattle.wot_plain.specs.Served.{Served}
use Rattle.wot_plain.specs.Watching.{LeavesWatches, Opens, TakesOff, Watching, is_watching, opened}
use Rattle.wot_plain.specs.Session.{Session}
use Rattle.wot_laws.specs.Numbers.{amount_in}
use Rattle.wot_laws.proofs.LineByCommand.{told_by}
use Rattle.wot_plain.proofs.Paced.{paced_cases}
use Rattle.wot_plain.proofs.StateReplies.{IsStateReply, state_replies}
use Rattle.wot_plain.proofs.Watched.{watched_cases}
use Rattle.std.proofs.Common.{◌≢◌}
use Rattle.std.specs.Prelude.{if◌then◌else◌}
use Rattle.std.proofs.lemmas.Bool.{eqb-false, eqb-true}
use Rattle.wot_cursor.specs.declared.stamps.Stamps.{Stamps}

-- ---- stamps

abbrev pub Aged : Stamps → Stamps → Age → Type 0
Aged was now ages.Same = (was.keyring ≡ now.keyring) × (was.view ≡ now.view)
Aged was now (ages.Keyring a b) = (a ≡ was.keyring) × (b ≡ now.keyring) × (a ≢ b)
Aged was now (ages.View a b) = (a ≡ was.view) × (b ≡ now.view) × (a ≢ b)

pub aged : (was now : Stamps) → Aged was now (age_of was now)
aged was now = by (was.keyring == now.keyring) (was.view == now.view) refl refl
  where
    by : (b c : Bool) → (was.keyring == now.keyring) ≡ b → (was.view == now.view) ≡ c
        → Aged was now (if b then (if c then ages.Same else ages.View was.view now.view) else ages.Keyring was.keyring
        now.keyring)
    by true true e f = (eqb-true was.keyring now.keyring e, eqb-true was.view now.view f)
    by true false e f = (refl, refl, eqb-false was.view now.view f)
    by false c e f = (refl, refl, eqb-false was.keyring now.keyring e)

-- ---- outcomes

abbrev D : Reply → Type 0
D (replies.WatchAmount name amount) = ⊥
D reply = DoNumbersDiffer reply

differ : (reply : Reply) → D reply → DoNumbersDiffer reply
differ (replies.WatchAmount name amount) d = tt
differ reply d = d

no_amount : (name : List ℕ) (reply : Reply) → D reply → amount_in name reply ≡ []
no_amount name (replies.WatchAmount other amount) d = absurd d
no_amount name reply d = refl

-- a command of the state replies nothing of cursors and watches
of_state : (reply : Reply) → IsStateReply reply → D reply
of_state (replies.WatchAmount name amount) r = absurd r
of_state (replies.StaleKeyring was now) r = absurd r
of_state (replies.StaleView was now) r = absurd r
of_state reply r = tt

-- ---- cursors

left : (told reply : Reply) (old cursors : Cursors) → D told → Leaves told old reply cursors → D reply
left told reply old cursors d l = subst D (sym l.0) d

if_told : (b : Bool) (P Q : Type 0) (reply : Reply) → (P → D reply) → (Q → D reply) → MatchBool b P Q → D reply
if_told true P Q reply f g p = f p
if_told false P Q reply f g q = g q

begins_told : (s : Session) (name view : List ℕ) (wanted : ℕ) (o : Option View) (reply : Reply) (cursors : Cursors)
    → Begins s name view wanted o reply cursors → D reply
begins_told s name view wanted None reply cursors l = left replies.View reply s.cursors cursors tt l
begins_told s name view wanted (Some there) reply cursors l =
    if_told (is_full s.cursors name) _ _ reply (left replies.FullCursors reply s.cursors cursors tt)
    (left replies.Done reply (with_entry s.cursors name (begun view wanted (stamps_in s view))) cursors tt) l

gives_told : (s : Session) (name : List ℕ) (count : ℕ) (cursor : Cursor) (view : View) (reply : Reply) (cursors : Cursors)
    → GivesPiece s name count cursor view reply cursors → D reply
gives_told s name count cursor view reply cursors g =
    if_told (cursor.wanted == 0) _ _ reply (left (piece []) reply s.cursors cursors tt)
    (λ p. left (piece (piece_of cursor.place count p.0)) reply (behind s.cursors name (piece_of cursor.place count p.0))
    cursors tt p.2) g

goes_by : (s : Session) (name : List ℕ) (count : ℕ) (cursor : Cursor) (view : View) (reply : Reply) (cursors : Cursors)
    (age : Age)
    → Aged cursor.stamps (stamps_in s cursor.view) age → GoesBy age s name count cursor view reply cursors → D reply
goes_by s name count cursor view reply cursors ages.Same a g = gives_told s name count cursor view reply cursors g
goes_by s name count cursor view reply cursors (ages.Keyring was now) a g =
    left (replies.StaleKeyring was now) reply s.cursors cursors a.2 g
goes_by s name count cursor view reply cursors (ages.View was now) a g =
    left (replies.StaleView was now) reply s.cursors cursors a.2 g

goes_from : (s : Session) (name : List ℕ) (count : ℕ) (cursor : Cursor) (o : Option View) (reply : Reply)
    (cursors : Cursors)
    → GoesFrom o s name count cursor reply cursors → D reply
goes_from s name count cursor None reply cursors g = left replies.View reply s.cursors cursors tt g
goes_from s name count cursor (Some view) reply cursors g =
    goes_by s name count cursor view reply cursors (age_of cursor.stamps (stamps_in s cursor.view))
    (aged cursor.stamps (stamps_in s cursor.view)) g

goes_told : (s : Session) (name : List ℕ) (count : ℕ) (o : Option Cursor) (reply : Reply) (cursors : Cursors)
    → Goes o s name count reply cursors → D reply
goes_told s name count None reply cursors g = left replies.NoCursor reply s.cursors cursors tt g
goes_told s name count (Some cursor) reply cursors g = goes_from s name count cursor (view_at s.state.views cursor.view)
    reply cursors g

ends_told : (s : Session) (name : List ℕ) (reply : Reply) (cursors : Cursors) → Ends s name reply cursors → D reply
ends_told s name reply cursors l =
    if_told (is_some (entry_at s.cursors name)) _ _ reply (left replies.Done reply (without_entry s.cursors name)
    cursors tt)
    (left replies.NoCursor reply s.cursors cursors tt) l

paces_told : (s : Session) (class : Class) (reply : Reply) (cursors : Cursors) → is_pacing class ≡ true
    → Paces s class reply cursors → D reply
paces_told s class reply cursors e p =
    paced_cases (λ (c : Class). Paces s c reply cursors → D reply)
    (λ name view wanted. begins_told s name view wanted (view_at s.state.views view) reply cursors)
    (λ name count. goes_told s name count (entry_at s.cursors name) reply cursors)
    (λ name. ends_told s name reply cursors) class e p

-- ---- watches

abbrev E : Reply → Type 0
E reply = DoNumbersDiffer reply

if_differ : (b : Bool) (P Q : Type 0) (reply : Reply) → (P → E reply) → (Q → E reply) → MatchBool b P Q → E reply
if_differ true P Q reply f g p = f p
if_differ false P Q reply f g q = g q

watched_left : (told reply : Reply) (left watches : Watches) → E told → LeavesWatches told left reply watches → E reply
watched_left told reply left watches d l = subst E (sym l.0) d

opens_told : (s : Session) (name view : List ℕ) (target : Fpr) (wanted : ℕ) (uid : List ℕ) (o : Option View)
    (reply : Reply) (watches : Watches)
    → Opens s name view target wanted uid o reply watches → E reply
opens_told s name view target wanted uid None reply watches l = watched_left replies.View reply s.watches watches tt l
opens_told s name view target wanted uid (Some there) reply watches p =
    if_differ (watching.is_full s.watches name) _ _ reply (watched_left replies.FullWatches reply s.watches watches tt)
    (watched_left (replies.WatchAmount name p.0) reply (with_entry s.watches name (opened view target wanted uid p.0))
    watches tt) p.2

off_told : (s : Session) (name : List ℕ) (reply : Reply) (watches : Watches) → TakesOff s name reply watches → E reply
off_told s name reply watches l =
    if_differ (is_some (entry_at s.watches name)) _ _ reply
    (watched_left replies.Done reply (without_entry s.watches name) watches tt)
    (watched_left replies.NoWatch reply s.watches watches tt) l

watching_told : (s : Session) (class : Class) (reply : Reply) (watches : Watches) → is_watching class ≡ true
    → Watching s class reply watches → E reply
watching_told s class reply watches e p =
    watched_cases (λ (c : Class). Watching s c reply watches → E reply)
    (λ name view target wanted uid. opens_told s name view target wanted uid (view_at s.state.views view) reply watches)
    (λ name. off_told s name reply watches) class e p

-- ---- lines

unwatched_told : (rows : PolicyRows) (old : Session) (class : Class) (answer : Served) (reply : Reply) (new : Session)
    → is_watching class ≡ false → CommandStep rows old class answer reply new → D reply
unwatched_told rows old (OfState command) answer reply new f o =
    of_state reply (state_replies rows old.state command answer reply new.state o.does)
unwatched_told rows old (OfCursor name command) answer reply new f o =
    paces_told old (OfCursor name command) reply new.cursors refl o.paces
unwatched_told rows old (OfWatch name command) answer reply new f o = absurd (cc f)

obeys_told : (rows : PolicyRows) (old : Session) (class : Class) (answer : Served) (reply : Reply) (new : Session)
    → CommandStep rows old class answer reply new → E reply
obeys_told rows old class answer reply new o = by (is_watching class) refl
  where
    by : (b : Bool) → is_watching class ≡ b → E reply
    by true e = watching_told old class reply new.watches e o.watching
    by false e = differ reply (unwatched_told rows old class answer reply new e o)

pub numbers_differ : (rows : PolicyRows) (old : Session) (line : List ℕ) (answer : Served) (reply : Reply) (new : Session)
    → LineStep rows old line answer (Some reply) new → DoNumbersDiffer reply
numbers_differ rows old line answer reply new step =
    told_by rows E tt tt old line answer reply new (λ class o. obeys_told rows old class answer reply new o) step

pub untold : (rows : PolicyRows) (old : Session) (class : Class) (answer : Served) (reply : Reply) (new : Session)
    → is_watching class ≡ false → CommandStep rows old class answer reply new → (name : List ℕ) →
    amount_in name reply ≡ []
untold rows old class answer reply new f o name =
    no_amount name reply (unwatched_told rows old class answer reply new f o)
