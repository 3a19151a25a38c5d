-- The edges that asking watches makes, one after another.
use Rattle.std.proofs.Common.{◌≡◌, ℕ, ◌≤◌, true, List, [], ◌∷◌, Option, Some, None, Result, Ok, Err, IsErrAnd}
use Rattle.std.proofs.Common.{refl, sym, subst, ◌∙◌, arith}
use Rattle.std.specs.Prelude.{is_ok}
use Rattle.wot_cache.specs.declared.view.View.{View}
use Rattle.wot_cache.specs.Marks.{IsMadeFor, IsRefreshed, end_at}
use Rattle.wot_cache.specs.State.{Engine}
use Rattle.wot_cache.specs.Views.{view_at}
use Rattle.wot_watch.specs.Watches.{Watch, Watches}
use Rattle.wot_plain.specs.Made.{WatchMakes, WatchesMake}
use Rattle.wot_plain.proofs.EdgesMadeByLine.{refreshed_as}

-- ---- bounds for one result hold for another that is Ok only if the first one is

module _ {A B T E : Type 0} (r : Result A B) (s : Result T E) (less : is_ok s ≡ true → is_ok r ≡ true) where
  pub watch_as : (watch : Watch) (old new : Engine) (before after : ℕ) → WatchMakes r watch old new before after
      → WatchMakes s watch old new before after
  watch_as watch old new before after m =
      record { none = m.none; asked = λ some. refreshed_as r s less watch.view old new before after (m.asked some) }

  pub watches_as : (watches : Watches) (old new : Engine) (before after : ℕ) →
      WatchesMake r watches old new before after
      → WatchesMake s watches old new before after
  watches_as [] old new before after m = m
  watches_as (e ∷ es) old new before after m =
      (m.0, m.1, watch_as e.1 old m.0 before m.1 m.2, watches_as es m.0 new m.1 after m.3)

pub made_for : {A B T E : Type 0} (r : Result A B) (s : Result T E) → (is_ok s ≡ true → is_ok r ≡ true) →
    (watch : Watch) (view : List ℕ) (wanted : ℕ)
    (old new : Engine) (before after : ℕ) → view ≡ watch.view → wanted ≡ watch.wanted →
    (1 ≤ wanted → IsRefreshed r view old new before after)
    → (wanted ≡ 0 → (new ≡ old) × (after ≡ before)) → WatchMakes s watch old new before after
made_for r s less watch view wanted old new before after v w asked none = record {
  none = λ zero. none (w ∙ zero);
  asked = λ some.
      refreshed_as r s less watch.view old new before after
      (subst (λ (x : List ℕ). IsRefreshed r x old new before after) v (asked (subst (λ (n : ℕ). 1 ≤ n) (sym w) some)));
}

-- ---- nothing is asked after an error

module _ (T : Type 0) {E : Type 0} (e : E) where
  refreshed_still : (name : List ℕ) (engine : Engine) (made : ℕ)
      → IsRefreshed {T = T} {E = E} (Err e) name engine engine made made
  refreshed_still name engine made = record {
    stays = record { keyring = refl; views = refl; revisions = refl };
    made = by (view_at engine.views name);
    others = λ other is. refl;
    closed = λ none. (refl, refl);
  }
    where
      by : (o : Option View) →
          IsMadeFor {T = T} {E = E} (Err e) o engine.keyring (end_at engine name made) (end_at engine name made)
      by None = tt
      by (Some v) = record {
        marks = tt;
        stay = λ fpr x at was. was;
        least = tt;
        most = omega arith;
        never_less = omega arith;
      }

  pub watches_still : (watches : Watches) (engine : Engine) (made : ℕ)
      → WatchesMake {T = T} {E = E} (Err e) watches engine engine made made
  watches_still [] engine made = (refl, refl)
  watches_still (w ∷ ws) engine made = (
    engine,
    made,
    record { none = λ zero. (refl, refl); asked = λ some. refreshed_still w.1.view engine made },
    watches_still ws engine made,
  )

-- ---- one watch after another

-- whatever the remaining watches make, all watches make that and what was made so far
abbrev pub MakesSoFar : Engine → ℕ → Watches → Watches → Engine → ℕ → Type 0
MakesSoFar old before all rest now made =
    (r : Result (Unit {0}) (Unit {0})) (new : Engine) (after : ℕ) → WatchesMake r rest now new made after
    → WatchesMake r all old new before after

module _ (old : Engine) (before : ℕ) (all : Watches) where
  pub so_far_more : {A B : Type 0} (rest : Watches) (name : List ℕ) (watch : Watch) (now next : Engine) (made more : ℕ)
      (x : Result A B)
      → is_ok x ≡ true → MakesSoFar old before all ((name, watch) ∷ rest) now made →
      WatchMakes x watch now next made more
      → MakesSoFar old before all rest next more
  so_far_more rest name watch now next made more x ok so m r new after others =
      so r new after (next, more, watch_as x r (λ done. ok) watch now next made more m, others)

  pub so_far_done : {T E : Type 0} (now : Engine) (made : ℕ) (rest : Watches) (s : Result T E) → rest ≡ []
      → MakesSoFar old before all rest now made → WatchesMake s all old now before made
  so_far_done now made rest s none so =
      let done : Result (Unit {0}) (Unit {0}) = Ok tt in
      watches_as done s (λ ok. refl) all old now before made (so done now made (rw none (refl, refl)))

  -- asking one of them ran out of memory
  pub so_far_failed : {A B T E : Type 0} (rest : Watches) (name : List ℕ) (watch : Watch) (now next : Engine)
      (made more : ℕ)
      (x : Result A B) (s : Result T E) → (is_ok s ≡ true → ⊥)
      → MakesSoFar old before all ((name, watch) ∷ rest) now made → WatchMakes x watch now next made more
      → WatchesMake s all old next before more
  so_far_failed rest name watch now next made more x s never so m =
      let failed : Result (Unit {0}) (Unit {0}) = Err tt in
      let made_all : WatchesMake failed all old next before more =
      so failed next more (
        next,
        more,
        watch_as x failed (λ ok. absurd cc) watch now next made more m,
        watches_still (Unit {0}) tt rest next more,
      ) in
      watches_as failed s (λ ok. absurd (never ok)) all old next before more made_all

-- ---- reporting amounts

pub never_ok : {T E : Type 0} (r : Result T E) (Q : E → Type 0) → IsErrAnd r Q → is_ok r ≡ true → ⊥
never_ok (Ok value) Q h ok = absurd h
never_ok (Err e) Q h ok = absurd cc
