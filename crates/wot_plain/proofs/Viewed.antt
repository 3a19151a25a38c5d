-- What lines do to views and their turns: a changed view has a later turn, or isn't open.
use Rattle.std.proofs.Common.{◌≡◌, ◌⊎◌, inl, inr, ℕ, ◌+◌, ◌<◌, ◌≤◌, Bool, true, false, cond, List, [], Option, Some}
use Rattle.std.proofs.Common.{None, refl, sym, ap, subst, ◌∙◌, arith, Result, Ok, Err}
use Rattle.std.specs.Prelude.{is_some}
use Rattle.std.specs.BTreeMap.{insert_entry}
use Rattle.std.specs.Map.{lookup, set_value}
use Rattle.std.specs.Option.{unwrap_or}
use Rattle.std.proofs.lemmas.Cmp.{nat_list_cmp_total}
use Rattle.std.proofs.lemmas.Map.Text.{is_eq-slice_cmp}
use Rattle.std.proofs.lemmas.Slice.Eq.{bytes_eq-Decides}
use Rattle.wot_types.specs.declared.fpr.Fpr.{Fpr}
use Rattle.wot_types.specs.declared.number.SigNumber.{SigNumber}
use Rattle.wot_types.specs.Limits.{standard_limits}
use Rattle.wot_types.specs.ViewName.{view_name_cmp}
use Rattle.wot_policy.specs.declared.rows.PolicyRows.{PolicyRows}
use Rattle.wot_verdict.specs.Verdicts.{verdict_at}
use Rattle.wot_verdict.specs.declared.verdict.Verdict.{Verdict}
use Rattle.wot_keyring_spec.specs.declared.imported.Imported.{Imported}
use Rattle.wot_keyring_spec.specs.declared.refusal.Refusal.{Refusal}
use Rattle.wot_keyring_spec.specs.Held.{cert_in, removing, verdict_cleared, verdict_set}
use Rattle.wot_keyring_spec.specs.Import.{answer_to, answer_under, is_entry}
use Rattle.wot_keyring_spec.specs.Verdict.{is_over}
use Rattle.wot_types.specs.declared.limits.Limit.TheVariants as words
use Rattle.wot_types.specs.declared.name.Name.{Name}
use Rattle.wot_script.specs.declared.reply.Reply.{Reply}
use Rattle.wot_script.specs.declared.reply.Reply.TheVariants as replies
use Rattle.wot_certd.specs.World.{Answer}
use Rattle.wot_cache.specs.declared.view.View.{View}
use Rattle.wot_cache.specs.declared.view.ViewFault.{ViewFault}
use Rattle.wot_cache.specs.State.{State, closing, rooting, timing, with_held}
use Rattle.wot_cache.specs.Revisions.{AreRevisionsBy, Revisions, revision_at, turned, with_revision, without_revision}
use Rattle.wot_cache.specs.Views.{Views, is_name, root_fault, rooted, time_fault, timed, view_at, with_amount}
use Rattle.wot_cache.specs.Views.{with_root, with_time, without_view}
use Rattle.wot_plain.specs.declared.class.Class.{Class}
use Rattle.wot_plain.specs.declared.class.Class.TheVariants.{State as OfState, Cursor as OfCursor, Watch as OfWatch}
use Rattle.wot_plain.specs.declared.class.StateCommand.TheVariants as kinds
use Rattle.wot_plain.specs.declared.class.Change.{Change}
use Rattle.wot_plain.specs.declared.class.Change.TheVariants as changes
use Rattle.wot_plain.specs.declared.class.ViewChange.{ViewChange}
use Rattle.wot_plain.specs.declared.class.ViewChange.TheVariants as alterings
use Rattle.wot_plain.specs.declared.class.ShelfCall.{ShelfCall}
use Rattle.wot_plain.specs.declared.class.ShelfCall.TheVariants as calls
use Rattle.wot_plain.specs.Classes.{call_of, change_of, reading, view_change_of}
use Rattle.wot_plain.specs.LineStep.{StateStep, ComesTo}
use Rattle.wot_plain.specs.Served.{Served}
use Rattle.wot_plain.specs.Outcome.{Outcome, close, done, imports, load, only, set_verdict, unless}
use Rattle.wot_plain.specs.Session.{AreTurned, Turning, turning_of}
use Rattle.wot_plain.proofs.Entries.{AllValues, AreInOrder, all_found, all_put, all_set, all_weaker, all_without}
use Rattle.wot_plain.proofs.Entries.{apart, found_put, found_set, gone_without, other_put, other_set, other_without}
use Rattle.wot_plain.proofs.Entries.{rising_put, rising_set, rising_without}

-- ---- names

pub same_name : (name other : List ℕ) → is_name name other ≡ true → name ≡ other
same_name name other e = (bytes_eq-Decides name other).0 (sym (is_eq-slice_cmp name other) ∙ e)

-- ---- views

abbrev pub AreViewsInOrder : Views → Type 0
AreViewsInOrder views = AreInOrder view_name_cmp views

-- at most this view changed
pub record IsOneView (name : List ℕ) (old new : Views) : Type 0 where
  pub order : AreViewsInOrder old → AreViewsInOrder new
  pub others : (other : List ℕ) → is_name name other ≡ false → view_at new other ≡ view_at old other

abbrev pub AreViewsBy : Turning → Views → Views → Type 0
AreViewsBy (Turning.turning name) old new = IsOneView name old new
AreViewsBy (Turning.closing name) old new = IsOneView name old new × (AreViewsInOrder old →
    (new ≡ old) ⊎ (view_at new name ≡ None))
AreViewsBy Turning.leaving old new = new ≡ old

no_view : (name : List ℕ) (old : Views) → IsOneView name old old
no_view name old = record { order = λ r. r; others = λ other e. refl }

put_view : (name : List ℕ) (view : View) (old : Views) → IsOneView name old (insert_entry view_name_cmp old name view)
put_view name view old = record {
  order = rising_put view_name_cmp nat_list_cmp_total name view old;
  others = λ other e. other_put view_name_cmp nat_list_cmp_total name other view old
      (apart view_name_cmp nat_list_cmp_total name other e);
}

set_view : (name : List ℕ) (view : View) (old : Views) → IsOneView name old (set_value (is_name name) old view)
set_view name view old = record {
  order = rising_set view_name_cmp (is_name name) view old;
  others = λ other e. other_set view_name_cmp nat_list_cmp_total name other view old
      (apart view_name_cmp nat_list_cmp_total name other e);
}

drop_view : (name : List ℕ) (old : Views) → IsOneView name old (without_view old name)
drop_view name old = record {
  order = rising_without view_name_cmp nat_list_cmp_total (is_name name) old;
  others = λ other e. other_without view_name_cmp nat_list_cmp_total name other old
      (apart view_name_cmp nat_list_cmp_total name other e);
}

time_view : (name : List ℕ) (t : ℕ) (old : Views) → IsOneView name old (with_time old name t)
time_view name t old = by (view_at old name)
  where
    by : (o : Option View) → IsOneView name old (timed old name t o)
    by None = put_view name (record { time = t; roots = [] }) old
    by (Some view) = set_view name (record view { time = t }) old

root_view : (name : List ℕ) (fpr : Fpr) (amount : ℕ) (old : Views) → IsOneView name old (with_root old name fpr amount)
root_view name fpr amount old = by (view_at old name)
  where
    by : (o : Option View) → IsOneView name old (rooted old name fpr amount o)
    by None = no_view name old
    by (Some view) = set_view name (record view { roots = with_amount view.roots fpr amount }) old

unless_view : (name : List ℕ) (s new : State) (fault : Option ViewFault) → IsOneView name s.views new.views
    → IsOneView name s.views (unless s fault new).state.views
unless_view name s new None v = v
unless_view name s new (Some fault) v = no_view name s.views

close_view : (name : List ℕ) (s : State) → AreViewsBy (Turning.closing name) s.views (close s name).state.views
close_view name s = by (is_some (view_at s.views name))
  where
    by : (b : Bool)
        → AreViewsBy (Turning.closing name) s.views (cond b (done (closing name s)) (only s replies.View)).state.views
    by true = (drop_view name s.views, λ r. inr (gone_without view_name_cmp nat_list_cmp_total name s.views r))
    by false = (no_view name s.views, λ r. inl refl)

-- other commands don't change the views
abbrev Keeps : State → Outcome → Type 0
Keeps s outcome = outcome.state.views ≡ s.views

either : (b : Bool) (s : State) (a c : Outcome) → Keeps s a → Keeps s c → Keeps s (cond b a c)
either true s a c p q = p
either false s a c p q = q

imports_keeps : (rows : PolicyRows) (s : State) (octets : List ℕ) (answer : Result Imported Refusal)
    → Keeps s (imports rows s octets answer)
imports_keeps rows s octets (Ok counts) = refl
imports_keeps rows s octets (Err fault) = refl

load_keeps : (rows : PolicyRows) (s : State) (name : Name) (answer : Answer) → Keeps s (load rows s name answer)
load_keeps rows s name Answer.fault = refl
load_keeps rows s name Answer.absent = refl
load_keeps rows s name Answer.long = refl
load_keeps rows s name (Answer.entry octets) =
    imports_keeps rows s octets (answer_under (is_entry name) rows standard_limits s.held.certs octets)

set_verdict_keeps : (s : State) (number : SigNumber) (v : Verdict) → Keeps s (set_verdict s number v)
set_verdict_keeps s number v =
    either (is_over standard_limits s.held.verdicts number) s (only s (replies.Full words.Verdicts))
    (done (with_held s (verdict_set number v s.held))) refl refl

given : (how : Turning) (s : State) (outcome : Outcome) (r : Reply) (m : State)
    → AreViewsBy how s.views outcome.state.views → ComesTo outcome r m
    → AreViewsBy how s.views m.views
given how s outcome r m v g = subst (λ (x : State). AreViewsBy how s.views x.views) (sym g.1) v

same : (s m : State) → m ≡ s → m.views ≡ s.views
same s m e = ap (λ (x : State). x.views) e

change_keeps : (rows : PolicyRows) (s : State) (change : Change) → Keeps s (change_of rows s change)
change_keeps rows s (changes.Import octets) =
    imports_keeps rows s octets (answer_to rows standard_limits s.held.certs octets)
change_keeps rows s (changes.Remove fpr) =
    either (is_some (cert_in s.held fpr)) s (done (with_held s (removing fpr s.held))) (only s replies.Absent) refl refl
change_keeps rows s (changes.Judge number v) = set_verdict_keeps s number v
change_keeps rows s (changes.Unjudge number) =
    either (is_some (verdict_at s.held.verdicts number)) s (done (with_held s (verdict_cleared number s.held)))
    (only s replies.Absent) refl refl

call_keeps : (rows : PolicyRows) (s : State) (call : ShelfCall) (answer : Served) →
    Keeps s (call_of rows s call answer)
call_keeps rows s (calls.Load name) answer = load_keeps rows s name answer.read
call_keeps rows s (calls.Store fpr) answer = refl

-- a change of a view
pub changes_view : (s : State) (view : List ℕ) (change : ViewChange) (r : Reply) (m : State)
    → ComesTo (view_change_of s view change) r m
    → AreViewsBy (turning_of (OfState (kinds.View view change))) s.views m.views
changes_view s view (alterings.Time t) r m =
    given (Turning.turning view) s (view_change_of s view (alterings.Time t)) r m
    (unless_view view s (timing view t s) (time_fault standard_limits s.views view) (time_view view t s.views))
changes_view s view (alterings.Root fpr amount) r m =
    given (Turning.turning view) s (view_change_of s view (alterings.Root fpr amount)) r m
    (unless_view view s (rooting view fpr amount s) (root_fault standard_limits (view_at s.views view) fpr amount)
    (root_view view fpr amount s.views))
changes_view s view alterings.Close r m =
    given (Turning.closing view) s (view_change_of s view alterings.Close) r m (close_view view s)

pub does_views : (rows : PolicyRows) (s : State) (class : Class) (answer : Served) (r : Reply) (m : State)
    → StateStep rows s class answer r m
    → AreViewsBy (turning_of class) s.views m.views
does_views rows s (OfState (kinds.Change change)) answer r m =
    given Turning.leaving s (change_of rows s change) r m (change_keeps rows s change)
does_views rows s (OfState (kinds.View view change)) answer r m = changes_view s view change r m
does_views rows s (OfState (kinds.Question view question)) answer r m = λ g. same s m g.1
does_views rows s (OfState (kinds.Read what)) answer r m =
    given Turning.leaving s (only s (reading s what)) r m refl
does_views rows s (OfState (kinds.Shelf call)) answer r m =
    given Turning.leaving s (call_of rows s call answer) r m (call_keeps rows s call answer)
does_views rows s (OfCursor name command) answer r m = λ g. same s m g
does_views rows s (OfWatch name command) answer r m = λ g. same s m g

-- ---- turns

own_revision : (name : List ℕ) (before : Revisions) → revision_at (turned name before) name ≡ Some (before.count + 1)
own_revision name before = by (revision_at before name) refl
  where
    by : (o : Option ℕ) → revision_at before name ≡ o
        → lookup (is_name name) (with_revision before.each name (before.count + 1) o) ≡ Some (before.count + 1)
    by None e = found_put view_name_cmp nat_list_cmp_total name (before.count + 1) before.each
    by (Some revision) e = found_set (is_name name) (before.count + 1) before.each (ap is_some e)

other_turned : (name other : List ℕ) (before : Revisions) → is_name name other ≡ false
    → revision_at (turned name before) other ≡ revision_at before other
other_turned name other before e = by (revision_at before name)
  where
    by : (o : Option ℕ)
        → lookup (is_name other) (with_revision before.each name (before.count + 1) o) ≡ revision_at before other
    by None = other_put view_name_cmp nat_list_cmp_total name other (before.count + 1) before.each
        (apart view_name_cmp nat_list_cmp_total name other e)
    by (Some revision) = other_set view_name_cmp nat_list_cmp_total name other (before.count + 1) before.each
        (apart view_name_cmp nat_list_cmp_total name other e)

other_gone : (name other : List ℕ) (before : Revisions) → is_name name other ≡ false
    → revision_at (without_revision name before) other ≡ revision_at before other
other_gone name other before e = other_without view_name_cmp nat_list_cmp_total name other before.each
    (apart view_name_cmp nat_list_cmp_total name other e)

by_others : (altered : Revisions) (name other : List ℕ) (old : Views) (before : Revisions) (new : Views) (after : Revisions)
    → revision_at altered other ≡ revision_at before other
    → AreRevisionsBy altered name old before new after → revision_at after other ≡ revision_at before other
by_others altered name other old before new after e (inl p) = ap (λ (t : Revisions). revision_at t other) p.1
by_others altered name other old before new after e (inr p) = ap (λ (t : Revisions). revision_at t other) p.1 ∙ e

by_more : (altered : Revisions) (name : List ℕ) (old : Views) (before : Revisions) (new : Views) (after : Revisions)
    → before.count ≤ altered.count
    → AreRevisionsBy altered name old before new after → before.count ≤ after.count
by_more altered name old before new after more (inl p) = let same = ap (λ (t : Revisions). t.count) p.1 in
    omega (arith, same)
by_more altered name old before new after more (inr p) = let same = ap (λ (t : Revisions). t.count) p.1 in
    omega (arith, same, more)

pub turns_more : (turning : Turning) (old : Views) (before : Revisions) (new : Views) (after : Revisions)
    → AreTurned turning old before new after → before.count ≤ after.count
turns_more (Turning.turning name) old before new after p = by_more (turned name before) name old before new after
    (omega arith) p
turns_more (Turning.closing name) old before new after p = by_more (without_revision name before) name old before new after
    (omega arith) p
turns_more Turning.leaving old before new after p = let same = ap (λ (t : Revisions). t.count) p in omega (arith, same)

-- ---- a view since an earlier state

-- the view and its turn are unchanged, or it isn't open, or its turn is later
abbrev pub IsShown : List ℕ → Views → Revisions → Views → Revisions → Type 0
IsShown view was since now revisions =
    ((view_at now view ≡ view_at was view) × (revision_at revisions view ≡ revision_at since view))
    ⊎ ((view_at now view ≡ None) ⊎ (since.count < unwrap_or (revision_at revisions view) 0))

module _ (view : List ℕ) (was : Views) (since : Revisions) where
  shown_same : (old : Views) (before : Revisions) (new : Views) (after : Revisions) → view_at new view ≡ view_at old view
      → revision_at after view ≡ revision_at before view
      → IsShown view was since old before → IsShown view was since new after
  shown_same old before new after v t (inl p) = inl (v ∙ p.0, t ∙ p.1)
  shown_same old before new after v t (inr (inl none)) = inr (inl (v ∙ none))
  shown_same old before new after v t (inr (inr later)) =
      let revision = ap (λ (o : Option ℕ). unwrap_or o 0) t in inr (inr (omega (arith, later, revision)))

  shown_turned : (old : Views) (before : Revisions) (new : Views) (after : Revisions) → since.count ≤ before.count
      → AreRevisionsBy (turned view before) view old before new after
      → IsShown view was since old before → IsShown view was since new after
  shown_turned old before new after few (inl p) s =
      shown_same old before new after p.0 (ap (λ (t : Revisions). revision_at t view) p.1) s
  shown_turned old before new after few (inr p) s =
      let revision : unwrap_or (revision_at after view) 0 ≡ before.count + 1 =
      ap (λ (t : Revisions). unwrap_or (revision_at t view) 0) p.1 ∙ ap (λ (o : Option ℕ). unwrap_or o 0)
      (own_revision view before) in
      inr (inr (omega (arith, few, revision)))

  shown_closed : (old : Views) (before : Revisions) (new : Views) (after : Revisions) → (new ≡ old) ⊎ (view_at new view ≡ None)
      → AreRevisionsBy (without_revision view before) view old before new after → IsShown view was since old before
      → IsShown view was since new after
  shown_closed old before new after v (inl p) s =
      shown_same old before new after p.0 (ap (λ (t : Revisions). revision_at t view) p.1) s
  shown_closed old before new after (inl e) (inr p) s = absurd (p.0 (ap (λ (vs : Views). view_at vs view) e))
  shown_closed old before new after (inr none) (inr p) s = inr (inl none)

  pub shown_by : (turning : Turning) (old : Views) (before : Revisions) (new : Views) (after : Revisions)
      → AreViewsInOrder old → since.count ≤ before.count
      → AreViewsBy turning old new → AreTurned turning old before new after → IsShown view was since old before
      → IsShown view was since new after
  shown_by Turning.leaving old before new after r few v t s =
      shown_same old before new after (ap (λ (vs : Views). view_at vs view) v) (ap (λ (x : Revisions). revision_at x view) t) s
  shown_by (Turning.turning name) old before new after r few v t s = by (is_name name view) refl
    where
      by : (b : Bool) → is_name name view ≡ b → IsShown view was since new after
      by true e =
          shown_turned old before new after few
          (subst (λ (n : List ℕ). AreRevisionsBy (turned n before) n old before new after) (same_name name view e) t) s
      by false e =
          shown_same old before new after (v.others view e) (by_others (turned name before) name view old before new
          after (other_turned name view before e) t) s
  shown_by (Turning.closing name) old before new after r few v t s = by (is_name name view) refl
    where
      by : (b : Bool) → is_name name view ≡ b → IsShown view was since new after
      by true e =
          let same = same_name name view e in
          shown_closed old before new after (subst (λ (n : List ℕ). (new ≡ old) ⊎ (view_at new n ≡ None)) same (v.1 r))
          (subst (λ (n : List ℕ). AreRevisionsBy (without_revision n before) n old before new after) same t) s
      by false e =
          shown_same old before new after (v.0.others view e) (by_others (without_revision name before) name view old before
          new after (other_gone name view before e) t) s

-- ---- well-formed views and turns

pub record AreSound (views : Views) (revisions : Revisions) : Type 0 where
  pub order : AreViewsInOrder views
  pub few : AllValues (λ (revision : ℕ). revision ≤ revisions.count) revisions.each

few_turned : (name : List ℕ) (before : Revisions) → AllValues (λ (revision : ℕ). revision ≤ before.count) before.each
    → AllValues (λ (revision : ℕ). revision ≤ before.count + 1) (turned name before).each
few_turned name before all = by (revision_at before name)
  where
    more : AllValues (λ (revision : ℕ). revision ≤ before.count + 1) before.each
    more = all_weaker (λ (revision : ℕ). revision ≤ before.count) (λ (revision : ℕ). revision ≤ before.count + 1)
        (λ revision few. omega (arith, few)) before.each all

    by : (o : Option ℕ)
        → AllValues (λ (revision : ℕ). revision ≤ before.count + 1) (with_revision before.each name (before.count + 1) o)
    by None = all_put (λ (revision : ℕ). revision ≤ before.count + 1) view_name_cmp name (before.count + 1) before.each
        (omega arith) more
    by (Some revision) = all_set (λ (revision : ℕ). revision ≤ before.count + 1) (is_name name) (before.count + 1) before.each
        (omega arith) more

abbrev FewIn : Revisions → Type 0
FewIn revisions = AllValues (λ (revision : ℕ). revision ≤ revisions.count) revisions.each

few_by : (altered : Revisions) (name : List ℕ) (old : Views) (before : Revisions) (new : Views) (after : Revisions) → FewIn before
    → FewIn altered
    → AreRevisionsBy altered name old before new after → FewIn after
few_by altered name old before new after p q (inl t) = subst FewIn (sym t.1) p
few_by altered name old before new after p q (inr t) = subst FewIn (sym t.1) q

pub sound_by : (turning : Turning) (old : Views) (before : Revisions) (new : Views) (after : Revisions)
    → AreViewsBy turning old new
    → AreTurned turning old before new after → AreSound old before → AreSound new after
sound_by (Turning.turning name) old before new after v t s = record {
  order = v.order s.order;
  few = few_by (turned name before) name old before new after s.few (few_turned name before s.few) t;
}
sound_by (Turning.closing name) old before new after v t s = record {
  order = v.0.order s.order;
  few =
      few_by (without_revision name before) name old before new after s.few
      (all_without (λ (revision : ℕ). revision ≤ before.count) (is_name name) before.each s.few) t;
}
sound_by Turning.leaving old before new after v t s = record {
  order = subst AreViewsInOrder (sym v) s.order;
  few =
      subst FewIn (sym t) s.few;
}

-- no turn is later than the last
pub turn_few : (views : Views) (revisions : Revisions) (name : List ℕ) → AreSound views revisions
    → unwrap_or (revision_at revisions name) 0 ≤ revisions.count
turn_few views revisions name s = by (revision_at revisions name) refl
  where
    by : (o : Option ℕ) → revision_at revisions name ≡ o → unwrap_or o 0 ≤ revisions.count
    by None e = omega arith
    by (Some revision) e = all_found (λ (n : ℕ). n ≤ revisions.count) (is_name name) revision revisions.each s.few e

pub order_by : (turning : Turning) (old new : Views) → AreViewsBy turning old new → AreViewsInOrder old
    → AreViewsInOrder new
order_by (Turning.turning name) old new v r = v.order r
order_by (Turning.closing name) old new v r = v.0.order r
order_by Turning.leaving old new v r = subst AreViewsInOrder (sym v) r
