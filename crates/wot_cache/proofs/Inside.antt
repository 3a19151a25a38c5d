-- Views stay within the limits, and kept networks and answers stay valid.
use Rattle.std.proofs.Common.{◌≡◌, ℕ, ◌<◌, ◌≤◌, Bool, true, false, cond, List, [], ◌∷◌, length, Option}
use Rattle.std.proofs.Common.{Some, None, Result, Ok, Err, OnOk, OnErr, refl, arith}
use Rattle.std.specs.Prelude.{nat_lt, nat_le, ◌==◌}
use Rattle.std.specs.Option.{unwrap_or, MatchOption, IfSome}
use Rattle.wot_types.specs.declared.memory.Memory.{Memory}
use Rattle.std.specs.BTreeMap.{insert_entry, is_at}
use Rattle.std.specs.Map.{lookup, remove_entry, set_value}
use Rattle.std.proofs.lemmas.Bool.{leb-false}
use Rattle.std.proofs.lemmas.Map.{length-set_value}
use Rattle.wot_types.specs.declared.fpr.Fpr.{Fpr}
use Rattle.wot_types.specs.declared.limits.Limits.{Limits}
use Rattle.wot_types.specs.Fpr.{fpr_cmp}
use Rattle.wot_types.specs.FprLaws.{fpr_total}
use Rattle.wot_types.specs.ViewName.{view_name_cmp}
use Rattle.wot_edge.specs.Roots.{IsRoots, root_amount}
use Rattle.wot_keyring_spec.specs.Import.{IsOneChange}
use Rattle.wot_keyring_spec.specs.Keyring.{Keyring}
use Rattle.wot_keyring_spec.specs.Later.{IsLater}
use Rattle.wot_network.specs.Net.{Net, Fits}
use Rattle.wot_cache.specs.declared.view.View.{View}
use Rattle.wot_answers.specs.Answers.{AllAnswers}
use Rattle.wot_cache.specs.Inside.{IsEngine, AllFit, FitLater, Networks}
use Rattle.wot_cache.specs.Revisions.{Revisions}
use Rattle.wot_cache.specs.Views.{Views, AreWithinLimits, is_name, view_at, with_amount, amount_fault, root_fault}
use Rattle.wot_cache.specs.Views.{without_view}
use Rattle.wot_answers.specs.EntryLaws.{each_inserted, each_set, each_removed, each_found, length_removed, length_inserted, length_replaced}
use Rattle.wot_answers.specs.RightLaws.{LaterStill, all_right_later}

-- ---- roots

-- setting a root keeps the number of roots within the limit
pub few_amounts : (l : Limits) (roots : List (Fpr × ℕ)) (fpr : Fpr) (amount : ℕ) → IsRoots roots
    → length roots ≤ l.roots → amount_fault l roots fpr amount ≡ None → length (with_amount roots fpr amount) ≤ l.roots
few_amounts l roots fpr amount are few none = by (amount == 0) (nat_lt 0 (root_amount roots fpr)) refl
    (nat_le l.roots (length roots)) refl none
  where
    kept : (o : Option ℕ) → lookup (is_at (fpr_cmp fpr)) roots ≡ o → nat_lt 0 (unwrap_or o 0) ≡ true
        → length (insert_entry fpr_cmp roots fpr amount) ≤ l.roots
    kept None e h = absurd cc
    kept (Some w) e h = let same = length_replaced fpr_cmp fpr_total roots fpr amount w are.order e in
        omega (arith, same, few)

    by : (zero : Bool) (some : Bool) → nat_lt 0 (root_amount roots fpr) ≡ some → (full : Bool)
        → nat_le l.roots (length roots) ≡ full
        → cond some None (cond zero (Some Rattle.wot_cache.specs.declared.view.ViewFault.TheVariants.Absent)
        (cond full (Some (Rattle.wot_cache.specs.declared.view.ViewFault.TheVariants.Full
        Rattle.wot_types.specs.declared.limits.Limit.TheVariants.Roots)) None)) ≡ None
        → length (cond zero (remove_entry (is_at (fpr_cmp fpr)) roots) (insert_entry fpr_cmp roots fpr amount)) ≤
        l.roots
    by true some s full f n = let fewer = length_removed (is_at (fpr_cmp fpr)) roots in omega (arith, fewer, few)
    by false true s full f n = kept (lookup (is_at (fpr_cmp fpr)) roots) refl s
    by false false s true f n = absurd cc
    by false false s false f n =
        let room = leb-false l.roots (length roots) f in
        let more = length_inserted fpr_cmp roots fpr amount in
        omega (arith, room, more)

-- ---- views

abbrev Few : ℕ → View → Type 0
Few limit v = length v.roots ≤ limit

pub within_closed : (l : Limits) (views : Views) (name : List ℕ) → AreWithinLimits l views
    → AreWithinLimits l (without_view views name)
within_closed l views name w =
    let fewer = length_removed (is_name name) views in
    record {
      few = omega (arith, fewer, w.few);
      few_roots = each_removed (Few l.roots) (is_name name) views w.few_roots;
    }

-- an open view's roots are within the limit
pub few_there : (l : Limits) (views : Views) (name : List ℕ) (v : View) → AreWithinLimits l views → view_at views name ≡ Some v
    → length v.roots ≤ l.roots
few_there l views name v w e = each_found (Few l.roots) (is_name name) views v w.few_roots e

-- ---- networks

pub all_fit : FitLater → (networks : Networks) (old new : Keyring) → IsLater old new → AllFit networks old
    → AllFit networks new
all_fit law [] old new later all = tt
all_fit law (e ∷ es) old new later all = (law e.1 old new all.0 later, all_fit law es old new later all.1)

-- the engine's invariant after a change of its keyring
pub engine_on : {revisions : Revisions} → FitLater → LaterStill
    → (old new : Keyring) (views : Views) (networks : Networks) (answers : AllAnswers) → new.limits ≡ old.limits
    → IsLater old new
    → IsOneChange old new → IsEngine old views networks answers revisions → IsEngine new views networks answers revisions
engine_on law further old new views networks answers limits later one e = record {
  small = rw limits e.small;
  within = rw limits e.within;
  fit = all_fit law networks old new later e.fit;
  of_open = e.of_open;
  answered = e.answered;
  right = all_right_later further old new answers later one e.right;
  turned = e.turned;
}

-- ---- the networks of an engine

abbrev FitsTo : Keyring → Net → Type 0
FitsTo k n = Fits n k

pub fit_put : (k : Keyring) (networks : Networks) (name : List ℕ) (n : Net) → AllFit networks k → Fits n k
    → AllFit (insert_entry view_name_cmp networks name n) k
fit_put k networks name n all f = each_inserted (FitsTo k) view_name_cmp networks name n all f

pub fit_set : (k : Keyring) (networks : Networks) (name : List ℕ) (n : Net) → AllFit networks k → Fits n k
    → AllFit (set_value (is_name name) networks n) k
fit_set k networks name n all f = each_set (FitsTo k) (is_name name) networks n all f

pub fit_without : (k : Keyring) (networks : Networks) (name : List ℕ) → AllFit networks k
    → AllFit (remove_entry (is_name name) networks) k
fit_without k networks name all = each_removed (FitsTo k) (is_name name) networks all

pub fits_found : (k : Keyring) (networks : Networks) (name : List ℕ) (n : Net) → AllFit networks k
    → lookup (is_name name) networks ≡ Some n → Fits n k
fits_found k networks name n all e = each_found (FitsTo k) (is_name name) networks n all e

-- ---- what the calls on the map of views preserve

pub moved_within : (l : Limits) (views new : Views) (name : List ℕ) (t : ℕ) (moved : Bool)
    → MatchOption (view_at views name) ((moved ≡ false) × (new ≡ views))
    (λ (v : View). (moved ≡ true) × (new ≡ set_value (is_name name) views (record v { time = t }))) → AreWithinLimits l views
    → AreWithinLimits l new
moved_within l views new name t moved m w = by (view_at views name) refl m
  where
    by : (o : Option View) → view_at views name ≡ o
        → MatchOption o ((moved ≡ false) × (new ≡ views))
        (λ (v : View). (moved ≡ true) × (new ≡ set_value (is_name name) views (record v { time = t }))) → AreWithinLimits l new
    by None e h = rw h.1 w
    by (Some v) e h = rw h.1 (record {
      few = rw (length-set_value (is_name name) views (record v { time = t })) w.few;
      few_roots = each_set (Few l.roots) (is_name name) views (record v { time = t }) w.few_roots
          (each_found (Few l.roots) (is_name name) views v w.few_roots e);
    })

pub opened_within : (l : Limits) (views new : Views) (name : List ℕ) (t : ℕ) (r : Result (Unit {0}) Memory)
    → length views < l.views
    → OnOk r (new ≡ insert_entry view_name_cmp views name (record { time = t; roots = [] })) → OnErr r (new ≡ views)
    → AreWithinLimits l views → AreWithinLimits l new
opened_within l views new name t (Ok done) room e same w =
    let more = length_inserted view_name_cmp views name (record { time = t; roots = [] }) in
    rw e (record {
      few = omega (arith, room, more);
      few_roots = each_inserted (Few l.roots) view_name_cmp views name (record { time = t; roots = [] }) w.few_roots
          (omega arith);
    })
opened_within l views new name t (Err fault) room e same w = rw same w

pub set_within : (l : Limits) (views new : Views) (name : List ℕ) (fpr : Fpr) (amount : ℕ)
    (r : Result (Unit {0}) Memory) → IfSome (view_at views name) (λ (v : View). IsRoots v.roots)
    → root_fault l (view_at views name) fpr amount ≡ None
    → OnOk r (MatchOption (view_at views name) ⊥ (λ (v : View). new ≡ set_value (is_name name) views
    (record v { roots = with_amount v.roots fpr amount }))) → OnErr r (new ≡ views) → AreWithinLimits l views → AreWithinLimits l new
set_within l views new name fpr amount (Err fault) are none set same w = rw same w
set_within l views new name fpr amount (Ok done) are none set same w = by (view_at views name) refl are none set
  where
    by : (o : Option View) → view_at views name ≡ o → IfSome o (λ (v : View). IsRoots v.roots)
        → root_fault l o fpr amount ≡ None
        → MatchOption o ⊥ (λ (v : View). new ≡ set_value (is_name name) views
        (record v { roots = with_amount v.roots fpr amount })) → AreWithinLimits l new
    by None e a n h = absurd h
    by (Some v) e a n h =
        let fewer = few_amounts l v.roots fpr amount a (each_found (Few l.roots) (is_name name) views v w.few_roots e) n
        in
        rw h (record {
          few = rw (length-set_value (is_name name) views (record v { roots = with_amount v.roots fpr amount })) w.few;
          few_roots = each_set (Few l.roots) (is_name name) views (record v { roots = with_amount v.roots fpr amount })
              w.few_roots fewer;
        })

pub kept_fit : (k : Keyring) (networks new : Networks) (name : List ℕ) (n : Net) (r : Result (Unit {0}) Memory)
    → OnOk r (new ≡ insert_entry view_name_cmp networks name n) → OnErr r (new ≡ networks) → AllFit networks k
    → Fits n k → AllFit new k
kept_fit k networks new name n (Ok done) put same all f = rw put (fit_put k networks name n all f)
kept_fit k networks new name n (Err fault) put same all f = rw same all
