-- Settled watches stay settled from line to line, and no watch line follows a line that leaves their basis undisturbed.
use Rattle.std.proofs.Common.{◌≡◌, ◌≢◌, ◌⊎◌, inl, inr, ℕ, ◌≤◌, Bool, true, false, List, [], ◌∷◌, ◌++◌, Option, Some}
use Rattle.std.proofs.Common.{None}
use Rattle.std.proofs.Common.{refl, sym, ap, subst, ◌∙◌, arith}
use Rattle.std.specs.Prelude.{◌==◌, IfSome, MatchBool, if◌then◌else◌, is_some, length}
use Rattle.std.proofs.lemmas.Bool.{eqb-false, eqb-true}
use Rattle.wot_types.specs.declared.fpr.Fpr.{Fpr}
use Rattle.wot_keyring_spec.specs.Import.{IsOneChange}
use Rattle.wot_keyring_spec.specs.Keyring.{Keyring}
use Rattle.wot_policy.specs.declared.rows.PolicyRows.{PolicyRows}
use Rattle.wot_script.specs.declared.command.Command.{Command}
use Rattle.wot_script.specs.declared.reply.Reply.{Reply}
use Rattle.wot_script.specs.declared.reply.Reply.TheVariants as replies
use Rattle.wot_cache.specs.declared.view.View.{View}
use Rattle.wot_cache.specs.Basis as bases
use Rattle.wot_cache.specs.Basis.{AreViewsOn, Basis, HasGrown, IsKeptOn, IsKeyringOn, IsUndisturbed, RestsOnLater}
use Rattle.wot_cache.specs.Basis.{RestsOnMore, RevisionGoesOn}
use Rattle.wot_cache.specs.Question.{question_in}
use Rattle.wot_cache.specs.State.{Engine, State, StaysButMarks, closing, state_of}
use Rattle.wot_cache.specs.Revisions.{AreRevisionsBy, Revisions, without_revision}
use Rattle.wot_cache.specs.Views.{Views, view_at}
use Rattle.wot_table.specs.Table.{entry_at, is_name, with_entry, without_entry}
use Rattle.wot_watch.specs.Watches.{Watch, Watches, is_full}
use Rattle.wot_plain.specs.declared.class.Class.{Class}
use Rattle.wot_plain.specs.declared.class.Class.TheVariants.{State as OfState}
use Rattle.wot_plain.specs.declared.class.StateCommand.TheVariants as kinds
use Rattle.wot_plain.specs.declared.class.ViewChange.{ViewChange}
use Rattle.wot_plain.specs.declared.class.ViewChange.TheVariants as revisions
use Rattle.wot_plain.specs.Classes.{class_of, view_change_of}
use Rattle.wot_plain.specs.Served.{Served}
use Rattle.wot_cursor.specs.Cursors.{Cursors}
use Rattle.wot_plain.specs.LineStep.{ReadLineStep, StateStep, ComesTo, CommandStep}
use Rattle.wot_plain.specs.Outcome.{close, done, only}
use Rattle.wot_watch_commands.specs.Settled.{AllSettled, AreOpen, AreSettled, IsNoAmount, IsSettled}
use Rattle.wot_plain.specs.Watching.{AreLines, HasAmount, LeavesWatches, Opens, TakesOff, Watching, is_watching}
use Rattle.wot_plain.specs.Watching.{line_by, opened}
use Rattle.wot_plain.specs.Session.{IsCounted, RevisedBy, Session, watched, session_of}
use Rattle.wot_plain.proofs.Entries.{all_weaker, all_without}
use Rattle.wot_plain.proofs.Viewed.{changes_view, does_views}
use Rattle.wot_plain.proofs.Watched.{amount_has, plain_watching, watched_cases}
use Rattle.wot_plain.proofs.Sessions.{turned_still}

-- ---- what is settled stays settled

pub all_later : RestsOnLater → (old new : Engine) (basis : Basis) (watches : Watches) → IsKeptOn old new
    → AllSettled old basis watches → AllSettled new basis watches
all_later later old new basis watches on =
    all_weaker (IsSettled old basis) (IsSettled new basis)
    (λ watch s. record {
      none = s.none;
      rests = λ some. later old new basis watch.view watch.target watch.wanted watch.uid watch.told on (s.rests some);
    }) watches

-- what is settled is settled on a basis that was moved forward
pub all_carried : (engine : Engine) (old new : Basis) (watches : Watches) → bases.CarriesOn engine old new
    → AllSettled engine old watches → AllSettled engine new watches
all_carried engine old new watches carries =
    all_weaker (IsSettled engine old) (IsSettled engine new)
    (λ watch s. record { none = s.none; rests = λ some later on calm. s.rests some later on (carries later on calm) })
    watches

-- ---- nothing is reported

-- a watch's question, from the view that is found
abbrev OfQ : Engine → Option View → Watch → Type 0
OfQ engine None watch = Unit {0}
OfQ engine (Some view) watch =
    bases.HasAmount watch.wanted watch.told (question_in (state_of engine) view watch.target watch.uid)

settled_has : (engine : Engine) (o : Option View) (watch : Watch) → is_some o ≡ true
    → (watch.wanted ≡ 0 → watch.told ≡ 0)
    → (1 ≤ watch.wanted → OfQ engine o watch)
    → HasAmount (state_of engine) o watch.target watch.wanted watch.uid (Some watch.told)
settled_has engine None watch seen none now = absurd (cc seen)
settled_has engine (Some view) watch seen none now = (watch.told, by (watch.wanted == 0) refl, refl)
  where
    by : (b : Bool) → (watch.wanted == 0) ≡ b
        → MatchBool b (watch.told ≡ 0) (bases.HasAmount watch.wanted watch.told
        (question_in (state_of engine) view watch.target watch.uid))
    by true e = none (eqb-true watch.wanted 0 e)
    by false e = let some = eqb-false watch.wanted 0 e in now (omega (arith, some))

quiet_by : (name : List ℕ) (told : ℕ) → None ≡ line_by name told (Some told)
quiet_by name told = by (told == told) refl
  where
    by : (b : Bool) → (told == told) ≡ b → None ≡ (if b then None else Some (replies.WatchAmount name told))
    by true e = refl
    by false e = absurd (eqb-false told told e refl)

-- If nothing that they depend on was altered and their views are open, no watch has a line.
pub nothing_told : (engine : Engine) (basis : Basis) (watches : Watches) → IsKeptOn engine engine
    → IsUndisturbed engine basis → AllSettled engine basis watches → AreOpen engine watches
    → AreLines (state_of engine) watches []
nothing_told engine basis [] on calm all seen = refl
nothing_told engine basis (x ∷ xs) on calm all seen = (
  None,
  [],
  (
    Some x.1.told,
    settled_has engine (view_at engine.views x.1.view) x.1 seen.0 all.0.none
        (λ some. now (view_at engine.views x.1.view) (all.0.rests some engine on calm)),
    quiet_by x.0 x.1.told,
  ),
  nothing_told engine basis xs on calm all.1 seen.1,
  refl,
)
  where
    now : (o : Option View)
        → IfSome o (λ (v : View). bases.HasAmount x.1.wanted x.1.told
        (question_in (state_of engine) v x.1.target x.1.uid))
        → OfQ engine o x.1
    now None h = tt
    now (Some view) h = h

-- ---- a line

-- a reply that isn't a watch's amount leaves the watches, or removes one
abbrev LeavesOrTakes : Watches → Watches → Type 0
LeavesOrTakes old new = (new ≡ old) ⊎ ((name : List ℕ) × (new ≡ without_entry old name))

opens_leaves : (s : Session) (name view : List ℕ) (target : Fpr) (wanted : ℕ) (uid : List ℕ) (o : Option View)
    (reply : Reply) (watches : Watches)
    → IsNoAmount reply → Opens s name view target wanted uid o reply watches → LeavesOrTakes s.watches watches
opens_leaves s name view target wanted uid None reply watches plain l = inl l.1
opens_leaves s name view target wanted uid (Some there) reply watches plain p = by (is_full s.watches name) p.2
  where
    by : (b : Bool)
        → MatchBool b (LeavesWatches replies.FullWatches s.watches reply watches)
        (LeavesWatches (replies.WatchAmount name p.0) (with_entry s.watches name (opened view target wanted uid p.0))
        reply watches)
        → LeavesOrTakes s.watches watches
    by true l = inl l.1
    by false l = absurd (subst IsNoAmount l.0 plain)

takes_leaves : (s : Session) (name : List ℕ) (reply : Reply) (watches : Watches) → TakesOff s name reply watches
    → LeavesOrTakes s.watches watches
takes_leaves s name reply watches l = by (is_some (entry_at s.watches name)) l
  where
    by : (b : Bool)
        → MatchBool b (LeavesWatches replies.Done (without_entry s.watches name) reply watches)
        (LeavesWatches replies.NoWatch s.watches reply watches)
        → LeavesOrTakes s.watches watches
    by true l = inr (name, l.1)
    by false l = inl l.1

watching_leaves : (s : Session) (class : Class) (reply : Reply) (watches : Watches) → IsNoAmount reply
    → Watching s class reply watches → LeavesOrTakes s.watches watches
watching_leaves s class reply watches plain w = by (is_watching class) refl
  where
    by : (b : Bool) → is_watching class ≡ b → LeavesOrTakes s.watches watches
    by true e =
        watched_cases (λ (c : Class). Watching s c reply watches → LeavesOrTakes s.watches watches)
        (λ name view target wanted uid. opens_leaves s name view target wanted uid (view_at s.state.views view) reply
        watches plain)
        (λ name. takes_leaves s name reply watches) class e w
    by false e = inl (plain_watching s class reply watches e w)

pub all_left : (engine : Engine) (basis : Basis) (old new : Watches) → LeavesOrTakes old new →
    AllSettled engine basis old
    → AllSettled engine basis new
all_left engine basis old new (inl same) all = subst (AllSettled engine basis) (sym same) all
all_left engine basis old new (inr took) all =
    subst (AllSettled engine basis) (sym took.1) (all_without (IsSettled engine basis) (is_name took.0) old all)

-- ---- how an engine develops

-- a change that doesn't reduce the number of certificates removes none
abbrev pub ChangedOn : Type 0
ChangedOn = (old new : Keyring) → IsOneChange old new → length old.certs ≤ length new.certs → IsKeyringOn old new

views_still : (old new : Views) (before after : Revisions) → new ≡ old → after ≡ before → AreViewsOn old before new after
views_still old new before after same revisions =
    let count = ap (λ (t : Revisions). t.count) revisions in
    record { counted = omega (arith, count); each = λ e name. inl (ap (λ (vs : Views). view_at vs name) same) }

-- one of the counts shows a change
abbrev pub IsCountedOn : Session → Session → Type 0
IsCountedOn old new = (new.changes ≢ old.changes) ⊎ (new.revisions.count ≢ old.revisions.count)

closed_on : (old new : Session) (view : List ℕ) (reply : Reply) → ComesTo (close old.state view) reply new.state
    → IsCounted old new → RevisedBy (OfState (kinds.View view revisions.Close)) old.state.views old.revisions new.state.views new.revisions
    → (reply ≡ replies.Done → IsCountedOn old new) → AreViewsOn old.state.views old.revisions new.state.views new.revisions
closed_on old new view reply g counted turned tells = by (is_some (view_at old.state.views view)) refl g
  where
    same_count : AreRevisionsBy (without_revision view old.revisions) view old.state.views old.revisions new.state.views new.revisions
        → new.revisions.count ≡ old.revisions.count
    same_count (inl p) = ap (λ (t : Revisions). t.count) p.1
    same_count (inr p) = ap (λ (t : Revisions). t.count) p.1

    same_changes : new.state.held ≡ old.state.held → IsCounted old new → new.changes ≡ old.changes
    same_changes held (inl c) = c.1
    same_changes held (inr c) = absurd (c.0 held)

    never : new.state.held ≡ old.state.held → IsCountedOn old new → ⊥
    never held (inl other) = other (same_changes held counted)
    never held (inr other) = other (same_count turned)

    by : (b : Bool) → is_some (view_at old.state.views view) ≡ b
        → ComesTo (if b then done (closing view old.state) else only old.state replies.View) reply new.state
        → AreViewsOn old.state.views old.revisions new.state.views new.revisions
    by true e h = absurd (never (ap (λ (s : State). s.held) h.1) (tells h.0))
    by false e h =
        let same = ap (λ (s : State). s.views) h.1 in
        views_still old.state.views new.state.views old.revisions new.revisions same
        (turned_still (OfState (kinds.View view revisions.Close)) old.state.views new.state.views old.revisions new.revisions same turned)

module _ (rows : PolicyRows) (on : RevisionGoesOn) where
  view_on : (old new : Session) (view : List ℕ) (change : ViewChange) (reply : Reply)
      → ComesTo (view_change_of old.state view change) reply new.state → IsCounted old new
      → RevisedBy (OfState (kinds.View view change)) old.state.views old.revisions new.state.views new.revisions
      → (reply ≡ replies.Done → IsCountedOn old new) → AreViewsOn old.state.views old.revisions new.state.views new.revisions
  view_on old new view revisions.Close reply d counted turned tells = closed_on old new view reply d counted turned tells
  view_on old new view (revisions.Time t) reply d counted turned tells =
      on view old.state.views new.state.views old.revisions new.revisions
      (changes_view old.state view (revisions.Time t) reply new.state d).others turned
  view_on old new view (revisions.Root fpr amount) reply d counted turned tells =
      on view old.state.views new.state.views old.revisions new.revisions
      (changes_view old.state view (revisions.Root fpr amount) reply new.state d).others turned

  does_on : (old new : Session) (class : Class) (given : Served) (reply : Reply)
      → StateStep rows old.state class given reply new.state → IsCounted old new
      → RevisedBy class old.state.views old.revisions new.state.views new.revisions
      → (reply ≡ replies.Done → IsCountedOn old new) → AreViewsOn old.state.views old.revisions new.state.views new.revisions
  does_on old new (OfState (kinds.View view change)) given reply d counted turned tells =
      view_on old new view change reply d counted turned tells
  does_on old new class given reply d counted turned tells =
      views_still old.state.views new.state.views old.revisions new.revisions
      (does_views rows old.state class given reply new.state d) turned

  -- the state after a line develops from the one before, by its reply and the counts
  pub obeys_on : (old new : Session) (class : Class) (given : Served) (reply : Reply)
      → CommandStep rows old class given reply new → (reply ≡ replies.Done → IsCountedOn old new)
      → AreViewsOn old.state.views old.revisions new.state.views new.revisions
  obeys_on old new class given reply o tells = does_on old new class given reply o.does o.counted o.turned tells

  answers_on : (old new : Session) (command : Option Command) (given : Served) (reply : Reply)
      → ReadLineStep rows old command given reply new → (reply ≡ replies.Done → IsCountedOn old new)
      → AreViewsOn old.state.views old.revisions new.state.views new.revisions
  answers_on old new None given reply g tells =
      views_still old.state.views new.state.views old.revisions new.revisions (ap (λ (w : Session). w.state.views) g.1)
      (ap (λ (w : Session). w.revisions) g.1)
  answers_on old new (Some command) given reply g tells = obeys_on old new (class_of command) given reply g tells

  answers_leaves : (old new : Session) (command : Option Command) (given : Served) (reply : Reply)
      → ReadLineStep rows old command given reply new → IsNoAmount reply → LeavesOrTakes old.watches new.watches
  answers_leaves old new None given reply g plain = inl (ap (λ (w : Session). w.watches) g.1)
  answers_leaves old new (Some command) given reply g plain = watching_leaves old (class_of command) reply new.watches
      plain
      g.watching

  -- a line was answered, with what was settled before it
  pub settled_behind : RestsOnLater → ChangedOn → (old new : Engine) (cursors after : Cursors) (watches left : Watches)
      (command : Option Command) (given : Served) (reply : Reply) (basis : Option Basis)
      → ReadLineStep rows (watched (session_of old cursors) watches) command given reply (watched (session_of new after) left)
      → IsOneChange old.keyring new.keyring → length old.keyring.certs ≤ length new.keyring.certs
      → (reply ≡ replies.Done → IsCountedOn (watched (session_of old cursors) watches)
      (watched (session_of new after) left))
      → IsNoAmount reply → AreSettled old watches basis → AreSettled new left basis
  settled_behind later changed old new cursors after watches left command given reply None a one more tells plain s = tt
  settled_behind later changed old new cursors after watches left command given reply (Some basis) a one more tells
      plain s =
      let was = watched (session_of old cursors) watches in
      let now = watched (session_of new after) left in
      let goes : IsKeptOn old new = record {
        keyring = changed old.keyring new.keyring one more;
        views = answers_on was now command given reply a tells;
      } in
      all_left new basis watches left (answers_leaves was now command given reply a plain)
      (all_later later old new basis watches goes s)

  -- a line was answered, by the counts before it, for a basis that was kept or dropped
  pub settled_told : RestsOnLater → ChangedOn → (old new : Engine) (cursors after : Cursors) (watches left : Watches)
      (command : Option Command) (given : Served) (reply : Reply) (found taken : Option Basis)
      (certificates changes revisions : ℕ)
      → ReadLineStep rows (watched (session_of old cursors) watches) command given reply (watched (session_of new after) left)
      → IsOneChange old.keyring new.keyring
      → certificates ≡ length old.keyring.certs → changes ≡ old.keyring.changes → revisions ≡ old.revisions.count
      → IfSome taken (λ (b : Basis). found ≡ Some b)
      → IfSome taken (λ (b : Basis). certificates ≤ length new.keyring.certs)
      → IfSome taken (λ (b : Basis). IsNoAmount reply)
      → IfSome taken (λ (b : Basis). reply ≡ replies.Done → (new.keyring.changes ≢ changes) ⊎ (new.revisions.count ≢ revisions))
      → AreSettled old watches found → AreSettled new left taken
  settled_told later changed old new cursors after watches left command given reply found None certificates changes
      revisions a one here were turned same more plain tells s = tt
  settled_told later changed old new cursors after watches left command given reply found (Some basis) certificates
      changes revisions a one here were turned same more plain tells s =
      settled_behind later changed old new cursors after watches left command given reply (Some basis) a one
      (subst (λ n. n ≤ length new.keyring.certs) here more)
      (λ done. subst (λ t. (new.keyring.changes ≢ old.keyring.changes) ⊎ (new.revisions.count ≢ t)) turned
      (subst (λ n. (new.keyring.changes ≢ n) ⊎ (new.revisions.count ≢ revisions)) were (tells done)))
      plain (subst (AreSettled old watches) same s)

-- ---- the amount of a question

pub sum_has : (s : State) (o : Option View) (target : Fpr) (wanted : ℕ) (uid : List ℕ) (sum : ℕ) → 1 ≤ wanted
    → is_some o ≡ true → IfSome o (λ (v : View). bases.HasAmount wanted sum (question_in s v target uid))
    → HasAmount s o target wanted uid (Some sum)
sum_has s None target wanted uid sum some seen is = absurd (cc seen)
sum_has s (Some view) target wanted uid sum some seen is =
    amount_has s (Some view) target wanted uid is.0 sum some refl is.1 is.2

-- ---- the loop that collects watch lines

-- a watch that is settled after marks were made was settled before
pub settled_before : RestsOnLater → (old new : Engine) (basis : Basis) (watch : Watch) → IsKeptOn new old →
    IsSettled new basis watch
    → IsSettled old basis watch
settled_before later old new basis watch on s = record {
  none = s.none;
  rests = λ some. later new old basis watch.view watch.target watch.wanted watch.uid watch.told on (s.rests some);
}

pub stays_back : (old new : Engine) → StaysButMarks old new → StaysButMarks new old
stays_back old new stays = record { keyring = sym stays.keyring; views = sym stays.views; revisions = sym stays.revisions }

-- a basis that grew has the same counts
pub present_grown : (engine : Engine) (old new : Basis) → HasGrown old new → bases.IsPresent engine old →
    bases.IsPresent engine new
present_grown engine old new more p = record { changes = more.changes ∙ p.changes; revisions = more.revisions ∙ p.revisions }

pub grown_further : (old mid new : Basis) → HasGrown old mid → HasGrown mid new → HasGrown old new
grown_further old mid new a b = record {
  changes = b.changes ∙ a.changes;
  revisions = b.revisions ∙ a.revisions;
  fprs = λ fpr e. b.fprs fpr (a.fprs fpr e);
  whole = λ e. b.whole (a.whole e);
}

pub grown_not : (basis : Basis) → HasGrown basis basis
grown_not basis = record { changes = refl; revisions = refl; fprs = λ fpr e. e; whole = λ e. e }

-- However much the basis grows: if the remaining watches are settled on it and there is no line, all are settled.
abbrev pub SettlesSoFar : Engine → Basis → Watches → Watches → List Reply → Type 0
SettlesSoFar engine basis all rest lines =
    lines ≡ [] → (more : Basis) → HasGrown basis more → AllSettled engine more rest → AllSettled engine more all

-- a watch without a line
pub settles_still : RestsOnMore → (engine : Engine) (old new : Basis) (all rest : Watches) (name : List ℕ)
    (watch : Watch) (lines : List Reply)
    → SettlesSoFar engine old all ((name, watch) ∷ rest) lines → HasGrown old new → IsSettled engine new watch
    → SettlesSoFar engine new all rest lines
settles_still grown engine old new all rest name watch lines f g s none more h others =
    f none more (grown_further old new more g h) (
      record {
        none = s.none;
        rests = λ some. grown engine new more watch.view watch.target watch.wanted watch.uid watch.told h
            (s.rests some);
      },
      others,
    )

-- a watch with a line
pub settles_not : (engine : Engine) (basis : Basis) (all rest : Watches) (said : Reply) (lines : List Reply)
    → SettlesSoFar engine basis all rest (lines ++ said ∷ [])
settles_not engine basis all rest said [] none = absurd (cc none)
settles_not engine basis all rest said (first ∷ lines) none = absurd (cc none)

pub settles_all : (engine : Engine) (basis : Basis) (all rest : Watches) (lines : List Reply) →
    SettlesSoFar engine basis all rest lines
    → rest ≡ [] → lines ≡ [] → AllSettled engine basis all
settles_all engine basis all rest lines f end none =
    f none basis (grown_not basis) (subst (AllSettled engine basis) (sym end) tt)
