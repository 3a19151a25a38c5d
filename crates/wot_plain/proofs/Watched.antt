-- The commands of watches, and the watch lines: their replies are printable, and each has only one.
use Rattle.std.proofs.Common.{◌≡◌, inl, inr, ℕ, ◌≤◌, ◌==◌, Bool, true, false, List, [], ◌∷◌, ◌++◌, Option, Some, None}
use Rattle.std.proofs.Common.{refl, sym, ap, subst, ◌∙◌, append_assoc, arith, length}
use Rattle.std.specs.Prelude.{IfSome, MatchBool, if◌then◌else◌, is_some}
use Rattle.std.specs.List.{AllByRecursion}
use Rattle.std.proofs.lemmas.Bool.{eqb-false, eqb-true}
use Rattle.std.proofs.lemmas.List.{append-nil, nil_from_length}
use Rattle.std.proofs.lemmas.Option.{same_Some}
use Rattle.wot_types.specs.declared.fpr.Fpr.{Fpr}
use Rattle.wot_key.specs.Key.{fpr_of}
use Rattle.wot_component.specs.Certificate.{Certificate}
use Rattle.wot_edge.specs.declared.path.Path.{Path}
use Rattle.wot_edge.specs.Answer.{IsAnswer, amount_of}
use Rattle.wot_edge.specs.Path.{Question}
use Rattle.wot_edge.specs.Record.{IsRecord}
use Rattle.wot_keyring_spec.specs.Keyring.{Certificates}
use Rattle.wot_network.specs.Records.{record_of}
use Rattle.wot_policy.specs.declared.rows.PolicyRows.{PolicyRows}
use Rattle.wot_table.specs.Table.{entry_at, with_entry, without_entry}
use Rattle.wot_script.specs.declared.reply.Reply.{Reply}
use Rattle.wot_script.specs.declared.reply.Reply.TheVariants as replies
use Rattle.wot_script.specs.Replies.{HasWords, reply_text}
use Rattle.wot_verdict.specs.Verdicts.{Entries}
use Rattle.wot_cache.specs.declared.view.View.{View}
use Rattle.wot_cache.specs.Question.{question_in}
use Rattle.wot_cache.specs.State.{IsState, State}
use Rattle.wot_cache.specs.Revisions.{Revisions}
use Rattle.wot_cache.specs.Views.{Views, view_at}
use Rattle.wot_watch.specs.Watches.{Watch, Watches, is_full}
use Rattle.wot_plain.specs.declared.class.Class.{Class}
use Rattle.wot_plain.specs.declared.class.Class.TheVariants.{State as OfState, Cursor as OfCursor, Watch as OfWatch}
use Rattle.wot_plain.specs.declared.class.WatchCommand.TheVariants as commands
use Rattle.wot_plain.specs.Entry.{unused, use_by}
use Rattle.wot_plain.specs.LineStep.{StateStep}
use Rattle.wot_plain.specs.Pacing.{is_pacing}
use Rattle.wot_plain.specs.Served.{Served}
use Rattle.wot_plain.specs.Transcript.{octets_of}
use Rattle.wot_plain.specs.Watching.{AreLines, BeginsWatch, HasAmount, IsAmount, IsLine, IsWatchLine, LeavesWatches}
use Rattle.wot_plain.specs.Watching.{Opens, TakesOff, ReportsWatches, Watching, is_watching, line_by, opened, told_all}
use Rattle.wot_plain.specs.Watching.{told_by, with_line}
use Rattle.wot_plain.specs.Session.{RevisedBy, Session}

-- ---- other commands

-- a claim that holds of each command of a watch
pub watched_cases : (P : Class → Type 0) → ((name view : List ℕ) (target : Fpr) (wanted : ℕ) (uid : List ℕ) →
    P (OfWatch name (commands.On view target wanted uid)))
    → ((name : List ℕ) → P (OfWatch name commands.Off)) → (class : Class) → is_watching class ≡ true → P class
watched_cases P on off (OfWatch name (commands.On view target wanted uid)) e = on name view target wanted uid
watched_cases P on off (OfWatch name commands.Off) e = off name
watched_cases P on off (OfState done) e = absurd (cc e)
watched_cases P on off (OfCursor name done) e = absurd (cc e)

-- the other commands leave the watches
unwatched_is : (s : Session) (class : Class) (reply : Reply) (watches : Watches) → is_watching class ≡ false →
    Watching s class reply watches ≡ (watches ≡ s.watches)
unwatched_is s (OfState done) reply watches e = refl
unwatched_is s (OfCursor name done) reply watches e = refl
unwatched_is s (OfWatch name done) reply watches e = absurd (cc e)

pub watching_plain : (s : Session) (class : Class) (reply : Reply) → is_watching class ≡ false →
    Watching s class reply s.watches
watching_plain s class reply e = subst (λ (P : Type 0). P) (sym (unwatched_is s class reply s.watches e)) refl

pub plain_watching : (s : Session) (class : Class) (reply : Reply) (watches : Watches) → is_watching class ≡ false →
    Watching s class reply watches → watches ≡ s.watches
plain_watching s class reply watches e p = subst (λ (P : Type 0). P) (unwatched_is s class reply watches e) p

-- ---- commands of watches don't change the state, the cursors, the turns and the certificate directory

-- no command is both of a cursor and of a watch
pub watched_unpaced : (class : Class) → is_watching class ≡ true → is_pacing class ≡ false
watched_unpaced class e = watched_cases (λ (c : Class). is_pacing c ≡ false) (λ name view target wanted uid. refl)
    (λ name. refl) class e

pub paced_unwatched : (class : Class) → is_pacing class ≡ true → is_watching class ≡ false
paced_unwatched class e = by (is_watching class) refl
  where
    by : (b : Bool) → is_watching class ≡ b → is_watching class ≡ false
    by false w = w
    by true w = let none = watched_unpaced class w in let never : true ≡ false = sym e ∙ none in absurd cc

pub state_watched : (rows : PolicyRows) (old : State) (class : Class) (given : Served) (reply : Reply) →
    is_watching class ≡ true → StateStep rows old class given reply old
state_watched rows old class given reply e =
    watched_cases (λ (c : Class). StateStep rows old c given reply old) (λ name view target wanted uid. refl)
    (λ name. refl) class e

pub turns_watched : (class : Class) (old new : Views) (before after : Revisions) → is_watching class ≡ true →
    after ≡ before → RevisedBy class old before new after
turns_watched class old new before after e same =
    watched_cases (λ (c : Class). RevisedBy c old before new after) (λ name view target wanted uid. same)
    (λ name. same) class e

pub uncalled_watched : (class : Class) → is_watching class ≡ true → use_by class ≡ unused
uncalled_watched class e =
    watched_cases (λ (c : Class). use_by c ≡ unused) (λ name view target wanted uid. refl) (λ name. refl)
    class e

-- ---- printable replies

left_worded : (told reply : Reply) (left watches : Watches) → HasWords told → LeavesWatches told left reply watches →
    HasWords reply
left_worded told reply left watches words l = subst HasWords (sym l.0) words

if_worded : (b : Bool) (P Q : Type 0) (reply : Reply) → (P → HasWords reply) → (Q → HasWords reply) → MatchBool b P Q →
    HasWords reply
if_worded true P Q reply f g p = f p
if_worded false P Q reply f g q = g q

opens_worded : (s : Session) (name view : List ℕ) (target : Fpr) (wanted : ℕ) (uid : List ℕ) (o : Option View)
    (reply : Reply) (watches : Watches)
    → Opens s name view target wanted uid o reply watches → HasWords reply
opens_worded s name view target wanted uid None reply watches l = left_worded replies.View reply s.watches watches tt l
opens_worded s name view target wanted uid (Some there) reply watches p =
    if_worded (is_full s.watches name) _ _ reply (left_worded replies.FullWatches reply s.watches watches tt)
    (left_worded (replies.WatchAmount name p.0) reply (with_entry s.watches name (opened view target wanted uid p.0))
    watches tt) p.2

off_worded : (s : Session) (name : List ℕ) (reply : Reply) (watches : Watches) → TakesOff s name reply watches →
    HasWords reply
off_worded s name reply watches l =
    if_worded (is_some (entry_at s.watches name)) _ _ reply
    (left_worded replies.Done reply (without_entry s.watches name) watches tt)
    (left_worded replies.NoWatch reply s.watches watches tt) l

pub watching_worded : (s : Session) (class : Class) (reply : Reply) (watches : Watches) → is_watching class ≡ true →
    Watching s class reply watches → HasWords reply
watching_worded s class reply watches e p =
    watched_cases (λ (c : Class). Watching s c reply watches → HasWords reply)
    (λ name view target wanted uid. opens_worded s name view target wanted uid (view_at s.state.views view) reply
    watches)
    (λ name. off_worded s name reply watches) class e p

pub line_worded : (line : Reply) → IsWatchLine line → HasWords line
line_worded said (inl is) = subst HasWords (sym is.2) tt
line_worded said (inr is) = subst HasWords (sym is.1) tt

-- ---- one amount

abbrev AnswerSome : Type 0
AnswerSome = (q : Question) (wanted : ℕ) → 1 ≤ wanted → (paths : List Path) × IsAnswer q wanted paths

abbrev pub AnswerOne : Type 0
AnswerOne = (q : Question) (wanted : ℕ) (a b : List Path) → IsRecord q.network → IsAnswer q wanted a →
    IsAnswer q wanted b → a ≡ b

abbrev pub Lawful : Type 0
Lawful =
    (certs : Certificates) (entries : Entries) (t : ℕ) (u : List ℕ) →
    AllByRecursion (λ (e : Fpr × Certificate). e.0 ≡ fpr_of e.1.key) certs
    → IsRecord (record_of certs entries t u)

-- the sum of the paths of an answer
abbrev Sums : State → View → Fpr → ℕ → List ℕ → ℕ → Type 0
Sums s view target wanted uid n =
    (paths : List Path) × IsAnswer (question_in s view target uid) wanted paths × (n ≡ amount_of paths)

amount_one : AnswerOne → Lawful → (s : State) (view : View) (target : Fpr) (wanted : ℕ) (uid : List ℕ) (a b : ℕ) →
    IsState s
    → IsAmount s view target wanted uid a → IsAmount s view target wanted uid b → a ≡ b
amount_one one lawful s view target wanted uid a b can = by (wanted == 0)
  where
    by : (z : Bool) → MatchBool z (a ≡ 0) (Sums s view target wanted uid a)
        → MatchBool z (b ≡ 0) (Sums s view target wanted uid b) → a ≡ b
    by true p q = p ∙ sym q
    by false p q =
        let same = one (question_in s view target uid) wanted p.0 q.0 (lawful s.held.certs s.held.verdicts view.time uid
        can) p.1 q.1 in
        p.2 ∙ ap amount_of same ∙ sym q.2

amount_some : AnswerSome → (s : State) (view : View) (target : Fpr) (wanted : ℕ) (uid : List ℕ) →
    (n : ℕ) × IsAmount s view target wanted uid n
amount_some some s view target wanted uid = by (wanted == 0) refl
  where
    by : (z : Bool) → (wanted == 0) ≡ z
        → (n : ℕ) × MatchBool z (n ≡ 0) ((paths : List Path) × IsAnswer (question_in s view target uid) wanted
        paths × (n ≡ amount_of paths))
    by true e = (0, refl)
    by false e =
        let other = eqb-false wanted 0 e in
        let paths = some (question_in s view target uid) wanted (omega (arith, other)) in
        (amount_of paths.0, (paths.0, paths.1, refl))

has_one : AnswerOne → Lawful → (s : State) (o : Option View) (target : Fpr) (wanted : ℕ) (uid : List ℕ)
    (a b : Option ℕ) → IsState s
    → HasAmount s o target wanted uid a → HasAmount s o target wanted uid b → a ≡ b
has_one one lawful s None target wanted uid a b can p q = p ∙ sym q
has_one one lawful s (Some view) target wanted uid a b can p q =
    p.2 ∙ ap (λ (n : ℕ). Some n) (amount_one one lawful s view target wanted uid p.0 q.0 can p.1 q.1) ∙ sym q.2

has_some : AnswerSome → (s : State) (o : Option View) (target : Fpr) (wanted : ℕ) (uid : List ℕ) →
    (a : Option ℕ) × HasAmount s o target wanted uid a
has_some some s None target wanted uid = (None, refl)
has_some some s (Some view) target wanted uid = let n = amount_some some s view target wanted uid in
    (Some n.0, (n.0, n.1, refl))

-- ---- watch lines

line_one : AnswerOne → Lawful → (s : State) (name : List ℕ) (watch : Watch) (a b : Option Reply) → IsState s →
    IsLine s name watch a → IsLine s name watch b → a ≡ b
line_one one lawful s name watch a b can p q =
    p.2 ∙ ap (line_by name watch.told) (has_one one lawful s (view_at s.views watch.view) watch.target watch.wanted
    watch.uid p.0 q.0 can p.1 q.1) ∙ sym q.2

line_some : AnswerSome → (s : State) (name : List ℕ) (watch : Watch) → (line : Option Reply) × IsLine s name watch line
line_some some s name watch =
    let a = has_some some s (view_at s.views watch.view) watch.target watch.wanted watch.uid in
    (line_by name watch.told a.0, (a.0, a.1, refl))

lines_one : AnswerOne → Lawful → (s : State) (watches : Watches) (a b : List Reply) → IsState s → AreLines s watches a →
    AreLines s watches b → a ≡ b
lines_one one lawful s [] a b can p q = p ∙ sym q
lines_one one lawful s (entry ∷ watches) a b can p q =
    p.4 ∙ ap (λ (l : Option Reply). with_line l p.1) (line_one one lawful s entry.0 entry.1 p.0 q.0 can p.2 q.2)
    ∙ ap (λ (ls : List Reply). with_line q.0 ls) (lines_one one lawful s watches p.1 q.1 can p.3 q.3) ∙ sym q.4

lines_some : AnswerSome → (s : State) (watches : Watches) → (lines : List Reply) × AreLines s watches lines
lines_some some s [] = ([], refl)
lines_some some s (entry ∷ watches) =
    let first = line_some some s entry.0 entry.1 in
    let others = lines_some some s watches in
    (with_line first.0 others.0, (first.0, others.0, first.1, others.1, refl))

pub Tells-one : AnswerOne → Lawful → (old : Session) (told others : List Reply) (new third : Session) → IsState old.state →
    ReportsWatches old told new → ReportsWatches old others third
    → (told ≡ others) × (new ≡ third)
Tells-one one lawful old told others new third can p q =
    let same = lines_one one lawful old.state old.watches told others can p.lines_are q.lines_are in
    (same, p.left ∙ ap (λ (ls : List Reply). record old { watches = told_all old.watches ls }) same ∙ sym q.left)

pub Tells-some : AnswerSome → (old : Session) → (told : List Reply) × (new : Session) × ReportsWatches old told new
Tells-some some old =
    let lines = lines_some some old.state old.watches in
    (lines.0, record old { watches = told_all old.watches lines.0 }, record { lines_are = lines.1; left = refl })

-- nothing is reported if there are no watches
pub tells_nothing : (old : Session) → old.watches ≡ [] → ReportsWatches old [] old
tells_nothing old none = record {
  lines_are = subst (λ (ws : Watches). AreLines old.state ws []) (sym none) refl;
  left = refl;
}

-- each of them is a watch line
line_is : (name : List ℕ) (told : ℕ) (amount : Option ℕ) → IfSome (line_by name told amount) IsWatchLine
line_is name told None = inr (name, refl)
line_is name told (Some amount) = by (amount == told)
  where
    by : (b : Bool) → IfSome (if b then None else Some (replies.WatchAmount name amount)) IsWatchLine
    by true = tt
    by false = inl (name, amount, refl)

with_is : (line : Option Reply) (others : List Reply) → IfSome line IsWatchLine → AllByRecursion IsWatchLine others →
    AllByRecursion IsWatchLine (with_line line others)
with_is None others a b = b
with_is (Some said) others a b = (a, b)

pub lines_are_watch : (s : State) (watches : Watches) (lines : List Reply) → AreLines s watches lines →
    AllByRecursion IsWatchLine lines
lines_are_watch s [] lines e = subst (AllByRecursion IsWatchLine) (sym e) tt
lines_are_watch s (entry ∷ watches) lines p =
    let one : IfSome p.0 IsWatchLine = subst (λ (o : Option Reply). IfSome o IsWatchLine) (sym p.2.2)
    (line_is entry.0 entry.1.told p.2.0) in
    subst (AllByRecursion IsWatchLine) (sym p.4) (with_is p.0 p.1 one (lines_are_watch s watches p.1 p.3))

-- ---- one reply

abbrev pub IsOneOf : (Reply → Watches → Type 0) → Type 0
IsOneOf P = (r t : Reply) (m n : Watches) → P r m → P t n → (r ≡ t) × (m ≡ n)

abbrev pub IsSomeOf : (Reply → Watches → Type 0) → Type 0
IsSomeOf P = (r : Reply) × (m : Watches) × P r m

leaves_one : (told : Reply) (left : Watches) → IsOneOf (LeavesWatches told left)
leaves_one told left r t m n p q = (p.0 ∙ sym q.0, p.1 ∙ sym q.1)

leaves_some : (told : Reply) (left : Watches) → IsSomeOf (LeavesWatches told left)
leaves_some told left = (told, left, (refl, refl))

if_one : (b : Bool) (P Q : Reply → Watches → Type 0) → IsOneOf P → IsOneOf Q →
    IsOneOf (λ r m. MatchBool b (P r m) (Q r m))
if_one true P Q p q = p
if_one false P Q p q = q

if_some : (b : Bool) (P Q : Reply → Watches → Type 0) → IsSomeOf P → IsSomeOf Q →
    IsSomeOf (λ r m. MatchBool b (P r m) (Q r m))
if_some true P Q p q = p
if_some false P Q p q = q

begins_one : (old : Watches) (name view : List ℕ) (target : Fpr) (wanted : ℕ) (uid : List ℕ) (amount : ℕ) →
    IsOneOf (BeginsWatch old name view target wanted uid amount)
begins_one old name view target wanted uid amount =
    if_one (is_full old name) (LeavesWatches replies.FullWatches old) _ (leaves_one replies.FullWatches old)
    (leaves_one (replies.WatchAmount name amount) (with_entry old name (opened view target wanted uid amount)))

begins_some : (old : Watches) (name view : List ℕ) (target : Fpr) (wanted : ℕ) (uid : List ℕ) (amount : ℕ) →
    IsSomeOf (BeginsWatch old name view target wanted uid amount)
begins_some old name view target wanted uid amount =
    if_some (is_full old name) (LeavesWatches replies.FullWatches old) _ (leaves_some replies.FullWatches old)
    (leaves_some (replies.WatchAmount name amount) (with_entry old name (opened view target wanted uid amount)))

opens_one : AnswerOne → Lawful → (s : Session) (name view : List ℕ) (target : Fpr) (wanted : ℕ) (uid : List ℕ)
    (o : Option View) → IsState s.state
    → IsOneOf (Opens s name view target wanted uid o)
opens_one one lawful s name view target wanted uid None can r t m n p q = leaves_one replies.View s.watches r t m n p q
opens_one one lawful s name view target wanted uid (Some there) can r t m n p q =
    let same = amount_one one lawful s.state there target wanted uid p.0 q.0 can p.1 q.1 in
    let q' : BeginsWatch s.watches name view target wanted uid p.0 t n =
    subst (λ (a : ℕ). BeginsWatch s.watches name view target wanted uid a t n) (sym same) q.2 in
    begins_one s.watches name view target wanted uid p.0 r t m n p.2 q'

opens_some : AnswerSome → (s : Session) (name view : List ℕ) (target : Fpr) (wanted : ℕ) (uid : List ℕ)
    (o : Option View) → IsSomeOf (Opens s name view target wanted uid o)
opens_some some s name view target wanted uid None = leaves_some replies.View s.watches
opens_some some s name view target wanted uid (Some there) =
    let amount = amount_some some s.state there target wanted uid in
    let begun = begins_some s.watches name view target wanted uid amount.0 in
    (begun.0, begun.1, (amount.0, amount.1, begun.2))

off_one : (s : Session) (name : List ℕ) → IsOneOf (TakesOff s name)
off_one s name =
    if_one (is_some (entry_at s.watches name)) (LeavesWatches replies.Done (without_entry s.watches name)) _
    (leaves_one replies.Done (without_entry s.watches name)) (leaves_one replies.NoWatch s.watches)

off_some : (s : Session) (name : List ℕ) → IsSomeOf (TakesOff s name)
off_some s name =
    if_some (is_some (entry_at s.watches name)) (LeavesWatches replies.Done (without_entry s.watches name)) _
    (leaves_some replies.Done (without_entry s.watches name)) (leaves_some replies.NoWatch s.watches)

pub watching_one : AnswerOne → Lawful → (s : Session) (class : Class) → is_watching class ≡ true → IsState s.state →
    IsOneOf (Watching s class)
watching_one one lawful s class e can =
    watched_cases (λ (c : Class). IsOneOf (Watching s c))
    (λ name view target wanted uid. opens_one one lawful s name view target wanted uid (view_at s.state.views view) can)
    (λ name. off_one s name) class e

pub watching_some : AnswerSome → (s : Session) (class : Class) → is_watching class ≡ true →
    IsSomeOf (Watching s class)
watching_some some s class e =
    watched_cases (λ (c : Class). IsSomeOf (Watching s c))
    (λ name view target wanted uid. opens_some some s name view target wanted uid (view_at s.state.views view))
    (λ name. off_some s name) class e

-- ---- the loop that collects watch lines

-- whatever the lines of the remaining watches are, these followed by them are the lines of all
abbrev pub AreSoFar : State → Watches → Watches → List Reply → Type 0
AreSoFar s all rest lines = (others : List Reply) → AreLines s rest others → AreLines s all (lines ++ others)

-- a watch without a line
pub so_far_still : (s : State) (all rest : Watches) (name : List ℕ) (watch : Watch) (lines : List Reply) →
    AreSoFar s all ((name, watch) ∷ rest) lines
    → IsLine s name watch None → AreSoFar s all rest lines
so_far_still s all rest name watch lines f is others p = f others (None, others, is, p, refl)

-- a watch with a line
pub so_far_line : (s : State) (all rest : Watches) (name : List ℕ) (watch : Watch) (line : Reply) (lines : List Reply) →
    AreSoFar s all ((name, watch) ∷ rest) lines
    → IsLine s name watch (Some line) → AreSoFar s all rest (lines ++ line ∷ [])
so_far_line s all rest name watch line lines f is others p =
    subst (λ (ls : List Reply). AreLines s all ls) (sym (append_assoc lines (line ∷ []) others))
    (f (line ∷ others) (Some line, others, is, p, refl))

-- at the end
pub so_far_all : (s : State) (all rest : Watches) (lines : List Reply) → AreSoFar s all rest lines → rest ≡ [] →
    AreLines s all lines
so_far_all s all rest lines f none =
    subst (λ (ls : List Reply). AreLines s all ls) (append-nil lines)
    (f [] (subst (λ (ws : Watches). AreLines s ws []) (sym none) refl))

-- one more line
pub all_more : (P : Reply → Type 0) (lines : List Reply) (line : Reply) → AllByRecursion P lines → P line
    → AllByRecursion P (lines ++ line ∷ [])
all_more P [] said all p = (p, tt)
all_more P (first ∷ lines) said all p = (all.0, all_more P lines said all.1 p)

-- a collected line is a watch line
pub line_is_watch : (s : State) (name : List ℕ) (watch : Watch) (line : Reply) → IsLine s name watch (Some line) →
    IsWatchLine line
line_is_watch s name watch line is = by (line_by name watch.told is.0) is.2 (line_is name watch.told is.0)
  where
    by : (o : Option Reply) → Some line ≡ o → IfSome o IsWatchLine → IsWatchLine line
    by None e w = absurd (cc e)
    by (Some other) e w = let same : line ≡ other = same_Some line other e in subst IsWatchLine (sym same) w

-- ---- the amount of a question

pub amount_has : (s : State) (o : Option View) (target : Fpr) (wanted : ℕ) (uid : List ℕ) (paths : List Path)
    (sum : ℕ) → 1 ≤ wanted → is_some o ≡ true
    → IfSome o (λ view. IsAnswer (question_in s view target uid) wanted paths) → sum ≡ amount_of paths →
    HasAmount s o target wanted uid (Some sum)
amount_has s None target wanted uid paths sum some seen answer is = absurd (cc seen)
amount_has s (Some view) target wanted uid paths sum some seen answer is = (sum, by (wanted == 0) refl, refl)
  where
    by : (z : Bool) → (wanted == 0) ≡ z
        → MatchBool z (sum ≡ 0) ((paths : List Path) × IsAnswer (question_in s view target uid) wanted
        paths × (sum ≡ amount_of paths))
    by true e = let none : wanted ≡ 0 = eqb-true wanted 0 e in absurd (omega (arith, none, some))
    by false e = (paths, answer, is)

-- ---- loops over watch lines

-- the first of the remaining lines
pub first_is : (P : Reply → Type 0) (line : Reply) (rest others : List Reply) → rest ≡ line ∷ others →
    AllByRecursion P rest → P line × AllByRecursion P others
first_is P said rest others e all = subst (AllByRecursion P) e all

-- their octets
pub text_on : (text next : List ℕ) (line : Reply) (rest others all : List Reply) →
    text ++ octets_of rest ≡ octets_of all → rest ≡ line ∷ others
    → next ≡ text ++ reply_text line → next ++ octets_of others ≡ octets_of all
text_on text next line rest others all so e f =
    ap (λ (x : List ℕ). x ++ octets_of others) f ∙ append_assoc text (reply_text line) (octets_of others)
    ∙ ap (λ (ls : List Reply). text ++ octets_of ls) (sym e) ∙ so

pub text_all : (text : List ℕ) (rest all : List Reply) → length rest ≡ 0 → text ++ octets_of rest ≡ octets_of all →
    text ≡ octets_of all
text_all text rest all none so = sym (append-nil text) ∙ ap (λ (ls : List Reply). text ++ octets_of ls)
    (sym (nil_from_length rest none)) ∙ so

-- the watches after they are reported
pub told_on : (now next first : Watches) (line : Reply) (rest others all : List Reply) →
    told_all now rest ≡ told_all first all → rest ≡ line ∷ others
    → next ≡ told_by now line → told_all next others ≡ told_all first all
told_on now next first said rest others all so e f = ap (λ (ws : Watches). told_all ws others) f
    ∙ ap (told_all now) (sym e) ∙ so

pub told_end : (now first : Watches) (rest all : List Reply) → length rest ≡ 0 →
    told_all now rest ≡ told_all first all → now ≡ told_all first all
told_end now first rest all none so = ap (told_all now) (sym (nil_from_length rest none)) ∙ so

-- ---- how a watch begins

pub begins_new : (old : Watches) (name view : List ℕ) (target : Fpr) (wanted : ℕ) (uid : List ℕ) (amount : ℕ)
    (reply : Reply) (watches : Watches) → is_full old name ≡ false
    → reply ≡ replies.WatchAmount name amount → watches ≡ with_entry old name (opened view target wanted uid amount)
    → BeginsWatch old name view target wanted uid amount reply watches
begins_new old name view target wanted uid amount reply watches few r w =
    subst (λ (b : Bool). MatchBool b (LeavesWatches replies.FullWatches old reply watches)
    (LeavesWatches (replies.WatchAmount name amount) (with_entry old name (opened view target wanted uid amount)) reply
    watches)) (sym few) (r, w)

pub begins_full : (old : Watches) (name view : List ℕ) (target : Fpr) (wanted : ℕ) (uid : List ℕ) (amount : ℕ)
    (watches : Watches) → is_full old name ≡ true → watches ≡ old
    → BeginsWatch old name view target wanted uid amount replies.FullWatches watches
begins_full old name view target wanted uid amount watches full w =
    subst (λ (b : Bool). MatchBool b (LeavesWatches replies.FullWatches old replies.FullWatches watches)
    (LeavesWatches (replies.WatchAmount name amount) (with_entry old name (opened view target wanted uid amount))
    replies.FullWatches watches)) (sym full) (refl, w)

-- if the question was answered
pub opens_answered : (s : Session) (name view : List ℕ) (target : Fpr) (wanted : ℕ) (uid : List ℕ) (o : Option View)
    (paths : List Path) (sum : ℕ) (reply : Reply) (watches : Watches)
    → 1 ≤ wanted → is_some o ≡ true → IfSome o (λ there. IsAnswer (question_in s.state there target uid) wanted paths) →
    sum ≡ amount_of paths
    → BeginsWatch s.watches name view target wanted uid sum reply watches →
    Opens s name view target wanted uid o reply watches
opens_answered s name view target wanted uid None paths sum reply watches some seen answer is begins = absurd (cc seen)
opens_answered s name view target wanted uid (Some there) paths sum reply watches some seen answer is begins =
    (sum, by (wanted == 0) refl, begins)
  where
    by : (z : Bool) → (wanted == 0) ≡ z
        → MatchBool z (sum ≡ 0) ((paths : List Path) × IsAnswer (question_in s.state there target uid) wanted
        paths × (sum ≡ amount_of paths))
    by true e = let none : wanted ≡ 0 = eqb-true wanted 0 e in absurd (omega (arith, none, some))
    by false e = (paths, answer, is)
