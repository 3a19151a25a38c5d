-- A refused line doesn't change the state.
use Rattle.std.proofs.Common.{◌≡◌, ◌∙◌, inl, inr, ℕ, ◌==◌, [], Bool, true, false, cond, List, length, Option, Some}
use Rattle.std.proofs.Common.{None, Result, Ok, Err, refl, sym, ap}
use Rattle.std.specs.Prelude.{MatchBool, nat_lt, is_some}
use Rattle.wot_types.specs.declared.limits.Limit.TheVariants as words
use Rattle.wot_types.specs.declared.name.Name.{Name}
use Rattle.wot_types.specs.declared.number.SigNumber.{SigNumber}
use Rattle.wot_types.specs.Limits.{standard_limits}
use Rattle.wot_policy.specs.declared.rows.PolicyRows.{PolicyRows}
use Rattle.wot_verdict.specs.Verdicts.{verdict_at}
use Rattle.wot_verdict.specs.declared.verdict.Verdict.{Verdict}
use Rattle.wot_keyring_spec.specs.declared.imported.Imported.{Imported}
use Rattle.wot_keyring_spec.specs.declared.refusal.Refusal.{Refusal}
use Rattle.wot_keyring_spec.specs.Held.{cert_in, verdict_set, removing, verdict_cleared}
use Rattle.wot_keyring_spec.specs.Import.{answer_to, answer_under, is_entry}
use Rattle.wot_keyring_spec.specs.Verdict.{is_over}
use Rattle.wot_table.specs.Table.{entry_at, with_entry, without_entry}
use Rattle.wot_script.specs.declared.command.Command.{Command}
use Rattle.wot_script.specs.declared.reply.Reply.{Reply}
use Rattle.wot_script.specs.declared.reply.Reply.TheVariants as replies
use Rattle.wot_script.specs.Grammar.{command_of}
use Rattle.wot_certd.specs.World.{Answer}
use Rattle.wot_cache.specs.declared.view.ViewFault.{ViewFault}
use Rattle.wot_cache.specs.State.{State, with_held, rooting, timing, closing}
use Rattle.wot_cache.specs.Views.{view_at, time_fault, root_fault}
use Rattle.wot_plain.specs.declared.class.Class.{Class}
use Rattle.wot_plain.specs.declared.class.Class.TheVariants.{State as OfState, Cursor as OfCursor, Watch as OfWatch}
use Rattle.wot_plain.specs.declared.class.StateCommand.TheVariants as kinds
use Rattle.wot_plain.specs.declared.class.Change.{Change}
use Rattle.wot_plain.specs.declared.class.Change.TheVariants as changes
use Rattle.wot_plain.specs.declared.class.ViewChange.{ViewChange}
use Rattle.wot_plain.specs.declared.class.ViewChange.TheVariants as revisions
use Rattle.wot_plain.specs.declared.class.ShelfCall.{ShelfCall}
use Rattle.wot_plain.specs.declared.class.ShelfCall.TheVariants as calls
use Rattle.wot_plain.specs.Classes.{call_of, change_of, class_of, reading, view_change_of}
use Rattle.wot_laws.specs.OneLine.{is_refused}
use Rattle.wot_plain.specs.Lines.{is_silent, longest}
use Rattle.wot_plain.specs.Outcome.{Outcome, only, done, imports, load, set_verdict, unless}
use Rattle.wot_plain.specs.LineStep.{LineStep, ReadLineStep, StateStep, ComesTo, CommandStep, Stays}
use Rattle.wot_cache.specs.declared.view.View.{View}
use Rattle.wot_cursor.specs.Age.{age_of}
use Rattle.wot_cursor.specs.Cursors.{Cursor, Cursors, begun, is_full}
use Rattle.wot_cursor.specs.declared.stamps.Age.{Age}
use Rattle.wot_cursor.specs.declared.stamps.Age.TheVariants as ages
use Rattle.wot_explain.specs.Piece.{piece_of}
use Rattle.wot_plain.specs.Pacing as pacing
use Rattle.wot_plain.specs.Pacing.{Begins, Ends, GivesPiece, Goes, GoesBy, GoesFrom, Paces, behind, is_pacing, piece}
use Rattle.wot_plain.specs.Pacing.{stamps_in}
use Rattle.wot_plain.specs.Session.{IsCounted, Session}
use Rattle.wot_plain.proofs.Paced.{paced_cases, plain_paces}
use Rattle.wot_plain.specs.Watching.{is_watching}
use Rattle.wot_plain.proofs.Watched.{plain_watching}
use Rattle.wot_laws.proofs.RefusedWatches.{watching_left}
use Rattle.wot_plain.proofs.Sessions.{turned_still, whole_same}
use Rattle.wot_plain.specs.Served.{Served}

-- an outcome that leaves this state if it is a refusal
abbrev Leaves : State → Outcome → Type 0
Leaves s outcome = is_refused outcome.reply ≡ true → outcome.state ≡ s

either : (b : Bool) (s : State) (a c : Outcome) → Leaves s a → Leaves s c → Leaves s (cond b a c)
either true s a c p q = p
either false s a c p q = q

done_leaves : (s new : State) → Leaves s (done new)
done_leaves s new e = absurd (cc e)

unless_leaves : (s new : State) (fault : Option ViewFault) → Leaves s (unless s fault new)
unless_leaves s new None = done_leaves s new
unless_leaves s new (Some fault) = λ _. refl

imports_leaves : (rows : PolicyRows) (s : State) (octets : List ℕ) (answer : Result Imported Refusal) →
    Leaves s (imports rows s octets answer)
imports_leaves rows s octets (Ok counts) e = absurd (cc e)
imports_leaves rows s octets (Err fault) e = refl

load_leaves : (rows : PolicyRows) (s : State) (name : Name) (answer : Answer) → Leaves s (load rows s name answer)
load_leaves rows s name Answer.fault e = refl
load_leaves rows s name Answer.absent e = refl
load_leaves rows s name Answer.long e = refl
load_leaves rows s name (Answer.entry octets) e =
    imports_leaves rows s octets (answer_under (is_entry name) rows standard_limits s.held.certs octets) e

set_verdict_leaves : (s : State) (number : SigNumber) (v : Verdict) → Leaves s (set_verdict s number v)
set_verdict_leaves s number v =
    either (is_over standard_limits s.held.verdicts number) s (only s (replies.Full words.Verdicts))
    (done (with_held s (verdict_set number v s.held)))
    (λ _. refl) (done_leaves s (with_held s (verdict_set number v s.held)))

-- such an outcome leaves the state if the line is refused
given : (s : State) (outcome : Outcome) (r : Reply) (m : State) → Leaves s outcome → ComesTo outcome r m →
    is_refused r ≡ true → m ≡ s
given s outcome r m leaves g e = g.1 ∙ leaves (ap is_refused (sym g.0) ∙ e)

change_leaves : (rows : PolicyRows) (s : State) (change : Change) → Leaves s (change_of rows s change)
change_leaves rows s (changes.Import octets) =
    imports_leaves rows s octets (answer_to rows standard_limits s.held.certs octets)
change_leaves rows s (changes.Remove fpr) =
    either (is_some (cert_in s.held fpr)) s (done (with_held s (removing fpr s.held))) (only s replies.Absent)
    (done_leaves s (with_held s (removing fpr s.held))) (λ _. refl)
change_leaves rows s (changes.Judge number v) = set_verdict_leaves s number v
change_leaves rows s (changes.Unjudge number) =
    either (is_some (verdict_at s.held.verdicts number)) s (done (with_held s (verdict_cleared number s.held)))
    (only s replies.Absent) (done_leaves s (with_held s (verdict_cleared number s.held))) (λ _. refl)

view_leaves : (s : State) (view : List ℕ) (change : ViewChange) → Leaves s (view_change_of s view change)
view_leaves s view (revisions.Time t) = unless_leaves s (timing view t s) (time_fault standard_limits s.views view)
view_leaves s view (revisions.Root fpr amount) =
    unless_leaves s (rooting view fpr amount s) (root_fault standard_limits (view_at s.views view) fpr amount)
view_leaves s view revisions.Close =
    either (is_some (view_at s.views view)) s (done (closing view s)) (only s replies.View)
    (done_leaves s (closing view s)) (λ _. refl)

call_leaves : (rows : PolicyRows) (s : State) (call : ShelfCall) (answer : Served) →
    Leaves s (call_of rows s call answer)
call_leaves rows s (calls.Load name) answer = load_leaves rows s name answer.read
call_leaves rows s (calls.Store fpr) answer = λ _. refl

does : (rows : PolicyRows) (s : State) (class : Class) (answer : Served) (r : Reply) (m : State) →
    StateStep rows s class answer r m → is_refused r ≡ true → m ≡ s
does rows s (OfState (kinds.Change change)) answer r m =
    given s (change_of rows s change) r m (change_leaves rows s change)
does rows s (OfState (kinds.View view change)) answer r m =
    given s (view_change_of s view change) r m (view_leaves s view change)
does rows s (OfState (kinds.Question view question)) answer r m = λ g _. g.1
does rows s (OfState (kinds.Read what)) answer r m = given s (only s (reading s what)) r m (λ _. refl)
does rows s (OfState (kinds.Shelf call)) answer r m =
    given s (call_of rows s call answer) r m (call_leaves rows s call answer)
does rows s (OfCursor name command) answer r m = λ g _. g
does rows s (OfWatch name command) answer r m = λ g _. g

-- ---- cursors

left : (told reply : Reply) (old kept cursors : Cursors) → (is_refused told ≡ true → kept ≡ old) →
    pacing.Leaves told kept reply cursors → is_refused reply ≡ true → cursors ≡ old
left told reply old kept cursors same l e = l.1 ∙ same (ap is_refused (sym l.0) ∙ e)

if_left : (b : Bool) (P Q : Type 0) (reply : Reply) (old cursors : Cursors) →
    (P → is_refused reply ≡ true → cursors ≡ old) → (Q → is_refused reply ≡ true → cursors ≡ old)
    → MatchBool b P Q → is_refused reply ≡ true → cursors ≡ old
if_left true P Q reply old cursors f g p = f p
if_left false P Q reply old cursors f g q = g q

begins_left : (s : Session) (name view : List ℕ) (wanted : ℕ) (o : Option View) (reply : Reply) (cursors : Cursors) →
    Begins s name view wanted o reply cursors → is_refused reply ≡ true → cursors ≡ s.cursors
begins_left s name view wanted None reply cursors l = left replies.View reply s.cursors s.cursors cursors (λ e. refl) l
begins_left s name view wanted (Some there) reply cursors l =
    if_left (is_full s.cursors name) _ _ reply s.cursors cursors (left replies.FullCursors reply s.cursors s.cursors
    cursors (λ e. refl))
    (left replies.Done reply s.cursors (with_entry s.cursors name (begun view wanted (stamps_in s view))) cursors
    (λ e. absurd (cc e))) l

gives_left : (s : Session) (name : List ℕ) (count : ℕ) (cursor : Cursor) (view : View) (reply : Reply) (cursors : Cursors)
    → GivesPiece s name count cursor view reply cursors → is_refused reply ≡ true → cursors ≡ s.cursors
gives_left s name count cursor view reply cursors g =
    if_left (cursor.wanted == 0) _ _ reply s.cursors cursors (left (piece []) reply s.cursors s.cursors cursors
    (λ e. refl))
    (λ p. left (piece (piece_of cursor.place count p.0)) reply s.cursors
    (behind s.cursors name (piece_of cursor.place count p.0)) cursors (λ e. absurd (cc e)) p.2) g

by_left : (age : Age) (s : Session) (name : List ℕ) (count : ℕ) (cursor : Cursor) (view : View) (reply : Reply)
    (cursors : Cursors)
    → GoesBy age s name count cursor view reply cursors → is_refused reply ≡ true → cursors ≡ s.cursors
by_left ages.Same s name count cursor view reply cursors g = gives_left s name count cursor view reply cursors g
by_left (ages.Keyring was now) s name count cursor view reply cursors g =
    left (replies.StaleKeyring was now) reply s.cursors s.cursors cursors (λ e. refl) g
by_left (ages.View was now) s name count cursor view reply cursors g = left (replies.StaleView was now) reply s.cursors
    s.cursors cursors (λ e. refl) g

from_left : (o : Option View) (s : Session) (name : List ℕ) (count : ℕ) (cursor : Cursor) (reply : Reply)
    (cursors : Cursors)
    → GoesFrom o s name count cursor reply cursors → is_refused reply ≡ true → cursors ≡ s.cursors
from_left None s name count cursor reply cursors g = left replies.View reply s.cursors s.cursors cursors (λ e. refl) g
from_left (Some view) s name count cursor reply cursors g = by_left (age_of cursor.stamps (stamps_in s cursor.view)) s
    name count cursor view reply cursors g

goes_left : (o : Option Cursor) (s : Session) (name : List ℕ) (count : ℕ) (reply : Reply) (cursors : Cursors) →
    Goes o s name count reply cursors → is_refused reply ≡ true → cursors ≡ s.cursors
goes_left None s name count reply cursors g = left replies.NoCursor reply s.cursors s.cursors cursors (λ e. refl) g
goes_left (Some cursor) s name count reply cursors g = from_left (view_at s.state.views cursor.view) s name count cursor
    reply cursors g

ends_left : (s : Session) (name : List ℕ) (reply : Reply) (cursors : Cursors) → Ends s name reply cursors →
    is_refused reply ≡ true → cursors ≡ s.cursors
ends_left s name reply cursors l =
    if_left (is_some (entry_at s.cursors name)) _ _ reply s.cursors cursors
    (left replies.Done reply s.cursors (without_entry s.cursors name) cursors (λ e. absurd (cc e)))
    (left replies.NoCursor reply s.cursors s.cursors cursors (λ e. refl)) l

paces_left : (s : Session) (class : Class) (reply : Reply) (cursors : Cursors) → is_pacing class ≡ true →
    Paces s class reply cursors → is_refused reply ≡ true → cursors ≡ s.cursors
paces_left s class reply cursors e =
    paced_cases (λ (c : Class). Paces s c reply cursors → is_refused reply ≡ true → cursors ≡ s.cursors)
    (λ name view wanted. begins_left s name view wanted (view_at s.state.views view) reply cursors)
    (λ name count. goes_left (entry_at s.cursors name) s name count reply cursors)
    (λ name. ends_left s name reply cursors) class e

-- ---- everything that is kept

uncounted : (s m : Session) → m.state ≡ s.state → IsCounted s m → m.changes ≡ s.changes
uncounted s m same (inl p) = p.1
uncounted s m same (inr p) = absurd (p.0 (ap (λ (x : State). x.held) same))

obeys : (rows : PolicyRows) (s : Session) (class : Class) (answer : Served) (r : Reply) (m : Session) →
    CommandStep rows s class answer r m → is_refused r ≡ true → m ≡ s
obeys rows s class answer r m o e =
    let same = does rows s.state class answer r m.state o.does e in
    whole_same m s same (uncounted s m same o.counted)
    (turned_still class s.state.views m.state.views s.revisions m.revisions (ap (λ (x : State). x.views) same) o.turned)
    (by (is_pacing class) refl)
    (watched (is_watching class) refl)
  where
    watched : (b : Bool) → is_watching class ≡ b → m.watches ≡ s.watches
    watched true k = watching_left s class r m.watches k o.watching e
    watched false k = plain_watching s class r m.watches k o.watching

    by : (b : Bool) → is_pacing class ≡ b → m.cursors ≡ s.cursors
    by true k = paces_left s class r m.cursors k o.paces e
    by false k = plain_paces s class r m.cursors k o.paces

answers : (rows : PolicyRows) (s : Session) (command : Option Command) (answer : Served) (r : Reply) (m : Session) →
    ReadLineStep rows s command answer r m → is_refused r ≡ true → m ≡ s
answers rows s None answer r m g e = g.1
answers rows s (Some command) answer r m o e = obeys rows s (class_of command) answer r m o e

pub step_leaves : (rows : PolicyRows) (s : Session) (line : List ℕ) (answer : Served) (r : Reply) (m : Session) →
    LineStep rows s line answer (Some r) m → is_refused r ≡ true → m ≡ s
step_leaves rows s line answer r m = long (nat_lt longest (length line))
  where
    silent : (b : Bool) → MatchBool b ((Some r ≡ None) × (m ≡ s)) (ReadLineStep rows s (command_of line) answer r m) →
        is_refused r ≡ true → m ≡ s
    silent true g e = g.1
    silent false g e = answers rows s (command_of line) answer r m g e

    long : (b : Bool) → MatchBool b (Stays s replies.Long r m) (MatchBool (is_silent line) ((Some r ≡ None) × (m ≡ s))
        (ReadLineStep rows s (command_of line) answer r m)) → is_refused r ≡ true → m ≡ s
    long true g e = g.1
    long false g e = silent (is_silent line) g e
