-- Marks of views. Networks are kept for open views only, and their marks are what contracts see of them.
use Rattle.std.proofs.Common.{◌≡◌, ℕ, Bool, true, false, cond, List, [], Option, Some, None, Result, Ok, Err, OnOk}
use Rattle.std.proofs.Common.{OnErr, refl, sym, ap, subst, ◌∙◌}
use Rattle.std.specs.Prelude.{IfOk, IsSomeAnd, is_ok}
use Rattle.std.specs.declared.cmp.Ordering.{Ordering}
use Rattle.std.specs.declared.cmp.Ordering.TheVariants.{Less, Equal, Greater}
use Rattle.std.specs.BTreeMap.{insert_entry}
use Rattle.std.specs.Map.{lookup, set_value}
use Rattle.std.specs.Option.{option_map, unwrap_or, MatchOption}
use Rattle.std.specs.Ordering.{is_eq}
use Rattle.std.proofs.lemmas.Cmp.{nat_list_cmp_total, tied_itself}
use Rattle.std.proofs.lemmas.Map.Made.{lookup-map_values}
use Rattle.wot_types.specs.declared.fpr.Fpr.{Fpr}
use Rattle.wot_types.specs.declared.memory.Memory.{Memory}
use Rattle.wot_types.specs.ViewName.{view_name_cmp}
use Rattle.wot_keyring_spec.specs.Keyring.{Keyring}
use Rattle.wot_network.specs.Net.{Net, Marks, marks_of}
use Rattle.wot_cache.specs.declared.view.View.{View}
use Rattle.wot_answers.specs.Answers.{AllAnswers, OthersKept}
use Rattle.wot_cache.specs.Inside.{AllFit, AreOfOpen, IsEngine, Networks, network_at}
use Rattle.wot_cache.specs.Marks.{End, IsForgotten, IsMadeFor, IsRefreshed, OthersStay, end_at, end_in, marks_by}
use Rattle.wot_cache.specs.Marks.{marks_in, marks_shown, shown}
use Rattle.wot_cache.specs.State.{Engine, OtherMarksStay, marks_at}
use Rattle.wot_cache.specs.Revisions.{Revisions}
use Rattle.wot_cache.specs.Views.{MovesTime, SetsAmount, Views, is_name, view_at, with_amount}
use Rattle.wot_answers.specs.EntryLaws.{none_set, none_put}

-- ---- names

pub equal_if : (o : Ordering) → is_eq o ≡ true → o ≡ Equal
equal_if Less e = absurd cc
equal_if Equal e = refl
equal_if Greater e = absurd cc

-- equal names find equal entries
pub found_by : {X : Type 0} (name other : List ℕ) (es : List (List ℕ × X)) → is_name name other ≡ true →
    lookup (is_name name) es ≡ lookup (is_name other) es
found_by name other es e =
    let same = equal_if (view_name_cmp name other) e in
    ap (λ (test : List ℕ → Bool). lookup test es) (λ i key. is_eq (nat_list_cmp_total.congr name other key same i))

-- ---- what is kept is still kept for open views only

of_more : {X : Type 0} (views new : Views) (kept : List (List ℕ × X)) →
    ((other : List ℕ) → view_at new other ≡ None → view_at views other ≡ None)
    → AreOfOpen views kept → AreOfOpen new kept
of_more views new kept more all other none = all other (more other none)

pub moved_open : {X : Type 0} (views new : Views) (kept : List (List ℕ × X)) (name : List ℕ) (t : ℕ) (moved : Bool) →
    MovesTime moved name t views new
    → AreOfOpen views kept → AreOfOpen new kept
moved_open views new kept name t moved moves = of_more views new kept (λ other. by other (view_at views name) moves)
  where
    by : (other : List ℕ) (o : Option View) → MatchOption o ((moved ≡ false) × (new ≡ views))
        (λ (v : View). (moved ≡ true) × (new ≡ set_value (is_name name) views (record v { time = t })))
        → view_at new other ≡ None → view_at views other ≡ None
    by other None m none = subst (λ (vs : Views). view_at vs other ≡ None) m.1 none
    by other (Some v) m none = none_set (is_name other) (is_name name) views (record v { time = t })
        (subst (λ (vs : Views). view_at vs other ≡ None) m.1 none)

pub opened_open : {X : Type 0} (views new : Views) (kept : List (List ℕ × X)) (name : List ℕ) (view : View)
    (r : Result (Unit {0}) Memory)
    → OnOk r (new ≡ insert_entry view_name_cmp views name view) → OnErr r (new ≡ views) → AreOfOpen views kept →
    AreOfOpen new kept
opened_open views new kept name view (Ok done) put same =
    of_more views new kept (λ other none. none_put (is_name other) view_name_cmp views name view
    (subst (λ (vs : Views). view_at vs other ≡ None) put none))
opened_open views new kept name view (Err fault) put same =
    of_more views new kept (λ other none. subst (λ (vs : Views). view_at vs other ≡ None) same none)

pub set_open : {X : Type 0} (views new : Views) (kept : List (List ℕ × X)) (name : List ℕ) (fpr : Fpr) (amount : ℕ)
    (r : Result (Unit {0}) Memory)
    → OnOk r (SetsAmount name fpr amount views new) → OnErr r (new ≡ views) → AreOfOpen views kept → AreOfOpen new kept
set_open views new kept name fpr amount (Err fault) set same =
    of_more views new kept (λ other none. subst (λ (vs : Views). view_at vs other ≡ None) same none)
set_open views new kept name fpr amount (Ok done) set same =
    of_more views new kept (λ other. by other (view_at views name) set)
  where
    by : (other : List ℕ) (o : Option View) →
        MatchOption o ⊥ (λ (v : View). new ≡ set_value (is_name name) views
        (record v { roots = with_amount v.roots fpr amount }))
        → view_at new other ≡ None → view_at views other ≡ None
    by other None m none = absurd m
    by other (Some v) m none =
        none_set (is_name other) (is_name name) views (record v { roots = with_amount v.roots fpr amount })
        (subst (λ (vs : Views). view_at vs other ≡ None) m none)

pub closed_open : {X : Type 0} (views left : Views) (kept rest : List (List ℕ × X)) (name : List ℕ) →
    IsForgotten name views left → IsForgotten name kept rest
    → AreOfOpen views kept → AreOfOpen left rest
closed_open views left kept rest name closed forgotten all other = by (is_name name other) (closed other)
    (forgotten other)
  where
    by : (b : Bool) → view_at left other ≡ cond b None (view_at views other) → lookup (is_name other) rest ≡ cond b None
        (lookup (is_name other) kept)
        → view_at left other ≡ None → lookup (is_name other) rest ≡ None
    by true v n none = n
    by false v n none = n ∙ all other (sym v ∙ none)

pub refreshed_open : (views : Views) (old new : Networks) (name : List ℕ) → OthersStay name old new →
    (view_at views name ≡ None → new ≡ old)
    → AreOfOpen views old → AreOfOpen views new
refreshed_open views old new name others closed all other none = by (is_name name other) refl
  where
    by : (b : Bool) → is_name name other ≡ b → network_at new other ≡ None
    by true e = ap (λ (ns : Networks). network_at ns other) (closed (found_by name other views e ∙ none))
        ∙ all other none
    by false e = others other e ∙ all other none

-- an open view's answers are kept for an open view
pub answered_open : (P : View → Type 0) (views : Views) (old new : AllAnswers) (name : List ℕ) →
    IsSomeAnd (view_at views name) P
    → OthersKept name old new → AreOfOpen views old → AreOfOpen views new
answered_open P views old new name there others all other none = by (is_name name other) refl
  where
    by : (b : Bool) → is_name name other ≡ b → lookup (is_name other) new ≡ None
    by true e = absurd (subst (λ (o : Option View). IsSomeAnd o P) (found_by name other views e ∙ none) there)
    by false e = others other e ∙ all other none

-- ---- the marks that networks show

pub shown_at : (networks : Networks) (name : List ℕ) → unwrap_or (lookup (is_name name) (marks_shown networks))
    [] ≡ marks_in networks name
shown_at networks name =
    ap (λ (o : Option Marks). unwrap_or o []) (lookup-map_values (λ (n : Net). marks_of n.lines) (is_name name)
    networks) ∙ by (network_at networks name)
  where
    by : (o : Option Net) → unwrap_or (option_map (λ (n : Net). marks_of n.lines) o) [] ≡ marks_by o
    by None = refl
    by (Some n) = refl

-- a closed view has no marks, and still none right after it is opened
pub unmarked : {revisions : Revisions} {answers : AllAnswers} (next : Revisions) (engine : Engine) (k : Keyring)
    (views new : Views) (networks : Networks) (name : List ℕ) → shown k views networks revisions answers ≡ engine
    → AreOfOpen views networks → view_at engine.views name ≡ None
    → marks_at (shown k new networks next answers) name ≡ []
unmarked {revisions} {answers} next engine k views new networks name seen all =
    subst (λ (e : Engine). view_at e.views name ≡ None → marks_at (shown k new networks next answers) name ≡ []) seen
    (λ none. shown_at networks name ∙ ap marks_by (all name none))

pub others_marked : {revisions : Revisions} {answers : AllAnswers} (next : Revisions) (engine : Engine) (k new : Keyring)
    (views more : Views) (old rest : Networks) (name : List ℕ) → shown k views old revisions answers ≡ engine
    → OthersStay name old rest → OtherMarksStay name engine (shown new more rest next answers)
others_marked {revisions} {answers} next engine k new views more old rest name seen others =
    subst (λ (e : Engine). OtherMarksStay name e (shown new more rest next answers)) seen
    (λ other e. shown_at rest other ∙ ap marks_by (others other e) ∙ sym (shown_at old other))

-- forgetting a network leaves the others
pub others_left : (name : List ℕ) (old rest : Networks) → IsForgotten name old rest → OthersStay name old rest
others_left name old rest forgotten other e = forgotten other ∙ ap (λ (b : Bool). cond b None (network_at old other)) e

-- a forgotten network is gone
pub gone_itself : (name : List ℕ) (old rest : Networks) → IsForgotten name old rest → network_at rest name ≡ None
gone_itself name old rest forgotten =
    forgotten name ∙ ap (λ (o : Ordering). cond (is_eq o) None (network_at old name))
    (tied_itself nat_list_cmp_total name)

pub none_shown : (revisions : Revisions) (k : Keyring) (views : Views) (rest : Networks) (name : List ℕ) →
    network_at rest name ≡ None → marks_at (shown k views rest revisions []) name ≡ []
none_shown revisions k views rest name none = shown_at rest name ∙ ap marks_by none

-- ---- questions

on_less : {A B T E : Type 0} (r : Result A B) (s : Result T E) (P : Type 0) → (is_ok s ≡ true → is_ok r ≡ true) →
    OnOk r P → OnOk s P
on_less r (Err e) P less p = tt
on_less (Ok a) (Ok b) P less p = p
on_less (Err e) (Ok b) P less p = let never : false ≡ true = less refl in absurd cc

-- an error isn't Ok, so the claim holds of it
pub err_less : {A B T E : Type 0} (r : Result A B) (s : Result T E) (e : E) → s ≡ Err e → is_ok s ≡ true →
    is_ok r ≡ true
err_less r s e is ok = let never : false ≡ true = sym (ap is_ok is) ∙ ok in absurd cc

pub if_err : {T E : Type 0} (s : Result T E) (P : T → Type 0) (e : E) → s ≡ Err e → IfOk s P
if_err {T} {E} s P e is = subst (λ (r : Result T E). IfOk r P) (sym is) tt

-- the bounds of a refresh hold whatever the question answers
pub made_as : {A B T E : Type 0} (o : Option View) (r : Result A B) (s : Result T E) (k : Keyring) (old new : End)
    → (is_ok s ≡ true → is_ok r ≡ true) → IsMadeFor r o k old new → IsMadeFor s o k old new
made_as None r s k old new less m = tt
made_as (Some v) r s k old new less m = record {
  marks = on_less r s _ less m.marks;
  stay = m.stay;
  least = on_less r s _ less m.least;
  most = m.most;
  never_less = m.never_less;
}

pub left : {T E : Type 0} {revisions : Revisions} {answers later : AllAnswers} (s : Result T E) (engine : Engine)
    (k new : Keyring) (views more : Views) (old rest : Networks) (name : List ℕ) (before after : ℕ)
    → shown k views old revisions answers ≡ engine → new ≡ k → more ≡ views
    → IsMadeFor s (view_at views name) k (end_in old name before) (end_in rest name after)
    → OthersStay name old rest → (view_at views name ≡ None → (rest ≡ old) × (after ≡ before)) →
    IsRefreshed s name engine (shown new more rest revisions later) before after
left {revisions = revisions} {answers = answers} {later = later} s engine k new views more old rest name before after seen same
    equal made others closed =
    subst (λ (e : Engine). IsRefreshed s name e (shown new more rest revisions later) before after) seen (record {
      stays = record { keyring = same; views = equal; revisions = refl };
      made = subst (λ (m : Marks). IsMadeFor s (view_at views name) k (record { marks = m; made = before })
          (end_at (shown new more rest revisions later) name after)) (sym (shown_at old name))
          (subst (λ (m : Marks). IsMadeFor s (view_at views name) k (end_in old name before)
          (record { marks = m; made = after })) (sym (shown_at rest name)) made);
      others = others_marked revisions (shown k views old revisions answers) k new views more old rest name refl others;
      closed = λ none. (
        shown_at rest name ∙ ap (λ (ns : Networks). marks_in ns name) (closed none).0
            ∙ sym (shown_at old name),
        (closed none).1,
      );
    })

-- the engine after its networks were refreshed
pub engine_after : {revisions : Revisions} (answers : AllAnswers) (k new : Keyring) (views more : Views) (old rest : Networks)
    (name : List ℕ) (before after : ℕ) → new ≡ k → more ≡ views → AllFit rest new
    → OthersStay name old rest → (view_at views name ≡ None → (rest ≡ old) × (after ≡ before)) →
    IsEngine k views old answers revisions → IsEngine new more rest answers revisions
engine_after {revisions} answers k new views more old rest name before after same equal fit others closed e =
    subst (λ (k : Keyring). IsEngine k more rest answers revisions) (sym same)
    (subst (λ (vs : Views). IsEngine k vs rest answers revisions) (sym equal) (record {
      small = e.small;
      within = e.within;
      fit = subst (λ (x : Keyring). AllFit rest x) same fit;
      of_open = refreshed_open views old rest name others (λ none. (closed none).0) e.of_open;
      answered = e.answered;
      right = e.right;
      turned = e.turned;
    }))
