-- How an engine develops, and what stays true of a basis meanwhile.
use Rattle.std.proofs.Common.{◌≡◌, inl, inr, ℕ, ◌+◌, ◌<◌, ◌≤◌, Bool, true, false, cond, List, [], ◌∷◌, length, Option}
use Rattle.std.proofs.Common.{Some, None, refl, sym, ap, subst, ◌∙◌, arith}
use Rattle.std.specs.Prelude.{◌⊎◌, ◌||◌, nat_le, IfSome, Result, Err, Vec, is_ok}
use Rattle.std.specs.declared.alloc.Global.{Global}
use Rattle.std.specs.List.{AllByRecursion}
use Rattle.std.specs.Option.{option_map_or}
use Rattle.std.proofs.lemmas.Bool.{leb-false, leb-true}
use Rattle.wot_types.specs.declared.fpr.Fpr.{Fpr}
use Rattle.wot_types.specs.FprLaws.{same_fpr-true}
use Rattle.wot_verdict.specs.Verdicts as verdicts
use Rattle.wot_component.specs.Certificate.{Signature}
use Rattle.wot_component.specs.Counts.{all_sigs}
use Rattle.wot_auth.specs.declared.answer.Answer.{Answer}
use Rattle.wot_edge.specs.Answer.{IsAnswer, amount_of}
use Rattle.wot_edge.specs.Path.{Question}
use Rattle.wot_keyring_spec.specs.declared.kept.Kept.{Kept}
use Rattle.wot_keyring_spec.specs.Import.{IsOneChange, KeepsAll}
use Rattle.wot_keyring_spec.specs.Keyring.{Keyring, is_fpr, kept_at, stamp_at}
use Rattle.wot_keyring_spec.specs.Kept.{AreStamped}
use Rattle.wot_keyring_spec.specs.Later.{IsLater, IsLaterAt, IsUnaltered, SaysSame}
use Rattle.wot_index.specs.Log.{HasChangedSince, Logged, is_listed}
use Rattle.wot_answers.specs.declared.answers.KeptAnswer.{KeptAnswer}
use Rattle.wot_answers.specs.declared.looked.Looked.{Looked}
use Rattle.wot_answers.specs.declared.fault.AskFault.{AskFault}
use Rattle.wot_answers.specs.declared.fault.AskFault.TheVariants as asked
use Rattle.wot_cache.specs.declared.view.View.{View}
use Rattle.wot_answers.specs.Answers.{AllAnswers, AllStill, IsOf, IsRight}
use Rattle.wot_answers.specs.Looked.{Amounts, AreStill}
use Rattle.wot_cache.specs.Basis.{AllIn, AreCalm, AreViewsOn, Basis, CarriesOn, HasAmount, HasGrown, Includes, IsFreeOf}
use Rattle.wot_cache.specs.Basis.{IsKeptAt, IsKeptOn, IsKeyringOn, IsPresent, IsSameOrClosed, IsUndisturbed, RestsAt}
use Rattle.wot_cache.specs.Basis.{RestsOn, is_in, question_on}
use Rattle.wot_cache.specs.Inside.{Networks}
use Rattle.wot_cache.specs.Marks.{IsRefreshed, end_at, shown}
use Rattle.wot_cache.specs.Question.{OfQuestion, question_in}
use Rattle.wot_cache.specs.State.{Engine, StaysButMarks, state_of}
use Rattle.wot_cache.specs.Revisions.{Revisions}
use Rattle.wot_cache.specs.Views.{TellsOpen, Views, view_at}
use Rattle.wot_answers.specs.CaseLaws.{if_some}
use Rattle.wot_answers.specs.RightLaws.{of_question, stamp_past}
use Rattle.wot_cache.proofs.OpenViewsMarks.{made_as}

itself : (n : ℕ) → n ≤ n
itself n = omega arith

chain : (a b c : ℕ) → a ≤ b → b ≤ c → a ≤ c
chain a b c h k = omega arith

risen : (a b c : ℕ) → a ≤ b → b < c → a < c
risen a b c h k = omega arith

not_both : (a b : ℕ) → a < b → b ≤ a → ⊥
not_both a b h k = omega arith

-- counts that only rise and end at the first value never rose
first_same : (a b c : ℕ) → a ≤ b → b ≤ c → c ≡ a → b ≡ a
first_same a b c h k e = omega arith

last_same : (a b c : ℕ) → a ≤ b → b ≤ c → c ≡ a → c ≡ b
last_same a b c h k e = omega arith

-- ---- keyrings

says_same : (said : verdicts.Entries) (sigs : List Signature) → AllByRecursion (SaysSame said said) sigs
says_same said [] = tt
says_same said (s ∷ sigs) = (refl, says_same said sigs)

says_on : (a b c : verdicts.Entries) (sigs : List Signature) → AllByRecursion (SaysSame a b) sigs →
    AllByRecursion (SaysSame b c) sigs → AllByRecursion (SaysSame a c) sigs
says_on a b c [] h k = tt
says_on a b c (s ∷ sigs) h k = (h.0 ∙ k.0, says_on a b c sigs h.1 k.1)

same_stamp : (old new : Keyring) (fpr : Fpr) → IsUnaltered old new fpr → stamp_at new fpr ≡ stamp_at old fpr
same_stamp old new fpr u = ap (λ (o : Option Kept). option_map_or (λ (x : Kept). x.stamp) o 0) u.kept

pub keyring_itself : (k : Keyring) → IsKeyringOn k k
keyring_itself k = record {
  counted = itself k.changes;
  at = λ fpr. inl (record { kept = refl; said = λ x e. says_same k.verdicts (all_sigs x.cert) });
  same = λ e. refl;
}

keyring_still : (old new : Keyring) → new ≡ old → IsKeyringOn old new
keyring_still old new e = subst (λ (k : Keyring). IsKeyringOn old k) (sym e) (keyring_itself old)

keyring_further : (old mid new : Keyring) → IsKeyringOn old mid → IsKeyringOn mid new → IsKeyringOn old new
keyring_further old mid new first second = record {
  counted = chain _ _ _ first.counted second.counted;
  at = λ fpr. by fpr (first.at fpr) (second.at fpr);
  same = λ e.
      second.same (last_same _ _ _ first.counted second.counted e)
      ∙ first.same (first_same _ _ _ first.counted second.counted e);
}
  where
    by : (fpr : Fpr) → IsKeptAt old mid fpr → IsKeptAt mid new fpr → IsKeptAt old new fpr
    by fpr h (inr given) = inr (risen _ _ _ first.counted given)
    by fpr (inr given) (inl k) = inr (subst (λ n. old.changes < n) (sym (same_stamp mid new fpr k)) given)
    by fpr (inl h) (inl k) =
        inl (record {
          kept = k.kept ∙ h.kept;
          said = λ x e. says_on old.verdicts mid.verdicts new.verdicts (all_sigs x.cert) (h.said x e)
              (k.said x (h.kept ∙ e));
        })

-- a certificate that is missing after a change that removes none was missing before
absent_on : (old new : Keyring) (fpr : Fpr) → kept_at new fpr ≡ None → kept_at old fpr ≡ None → IsKeptAt old new fpr
absent_on old new fpr gone none = inl (record { kept = gone ∙ sym none; said = λ x e. absurd (never x (sym none ∙ e)) })
  where
    never : (x : Kept) → None ≡ Some x → ⊥
    never x e = cc

changed_on : (old new : Keyring) → IsLater old new → KeepsAll old new → new.changes ≡ old.changes + 1 →
    IsKeyringOn old new
changed_on old new later all counted = record {
  counted = later.counted;
  at = λ fpr. by fpr (later.at fpr);
  same = λ e. absurd (apart new.changes old.changes counted e);
}
  where
    by : (fpr : Fpr) → IsLaterAt old new fpr → IsKeptAt old new fpr
    by fpr (inl u) = inl u
    by fpr (inr (inl gone)) = absent_on old new fpr gone (all fpr gone)
    by fpr (inr (inr given)) = inr given

    apart : (n m : ℕ) → n ≡ m + 1 → n ≡ m → ⊥
    apart n m e f = omega arith

pub change_on : (old new : Keyring) → IsOneChange old new → length old.certs ≤ length new.certs → IsKeyringOn old new
change_on old new (inl same) more = keyring_still old new same
change_on old new (inr changed) more = by changed.kept
  where
    by : KeepsAll old new ⊎ (length new.certs < length old.certs) → IsKeyringOn old new
    by (inl all) = changed_on old new changed.later all changed.counted
    by (inr fewer) = absurd (not_both (length new.certs) (length old.certs) fewer more)

-- a keyring that develops without removals is a later one
pub on_later : (old new : Keyring) → IsKeyringOn old new → IsLater old new
on_later old new on = record { counted = on.counted; at = λ fpr. by fpr (on.at fpr) }
  where
    by : (fpr : Fpr) → IsKeptAt old new fpr → IsLaterAt old new fpr
    by fpr (inl u) = inl u
    by fpr (inr given) = inr (inr given)

-- ---- views

views_still : (old new : Views) (before after : Revisions) → new ≡ old → after ≡ before → AreViewsOn old before new after
views_still old new before after same still = record {
  counted = let e : after.count ≡ before.count = ap (λ (t : Revisions). t.count) still in omega (arith, e);
  each = λ e name. inl (ap (λ (vs : Views). view_at vs name) same);
}

views_further : (old mid new : Views) (before between after : Revisions) → AreViewsOn old before mid between →
    AreViewsOn mid between new after → AreViewsOn old before new after
views_further old mid new before between after first second = record {
  counted = chain _ _ _ first.counted second.counted;
  each = λ e name.
      by name (first.each (first_same _ _ _ first.counted second.counted e) name)
      (second.each (last_same _ _ _ first.counted second.counted e) name);
}
  where
    by : (name : List ℕ) → IsSameOrClosed (view_at old name) (view_at mid name) →
        IsSameOrClosed (view_at mid name) (view_at new name) → IsSameOrClosed (view_at old name) (view_at new name)
    by name h (inr closed) = inr closed
    by name (inl same) (inl e) = inl (e ∙ same)
    by name (inr closed) (inl e) = inr (e ∙ closed)

-- ---- engines

pub engine_still : (old new : Engine) → StaysButMarks old new → IsKeptOn old new
engine_still old new stays = record {
  keyring = keyring_still old.keyring new.keyring stays.keyring;
  views = views_still old.views new.views old.revisions new.revisions stays.views stays.revisions;
}

pub engine_itself : (engine : Engine) → IsKeptOn engine engine
engine_itself engine = engine_still engine engine (record { keyring = refl; views = refl; revisions = refl })

pub engine_further : (old mid new : Engine) → IsKeptOn old mid → IsKeptOn mid new → IsKeptOn old new
engine_further old mid new first second = record {
  keyring = keyring_further old.keyring mid.keyring new.keyring first.keyring second.keyring;
  views = views_further old.views mid.views new.views old.revisions mid.revisions new.revisions first.views second.views;
}

-- ---- growing a basis

pub grown_itself : (b : Basis) → HasGrown b b
grown_itself b = record { changes = refl; revisions = refl; fprs = λ fpr h. h; whole = λ h. h }

-- if a larger basis is undisturbed, so is a smaller one
pub undisturbed_before : (later : Engine) (old new : Basis) → HasGrown old new → IsUndisturbed later new →
    IsUndisturbed later old
undisturbed_before later old new grown calm = record {
  revisions = calm.revisions ∙ grown.revisions;
  calm = λ fpr there. subst (λ n. stamp_at later.keyring fpr ≤ n) grown.changes (calm.calm fpr (grown.fprs fpr there));
  whole = λ all. calm.whole (grown.whole all) ∙ grown.changes;
}

pub rests_grown : (engine : Engine) (old new : Basis) (view : List ℕ) (target : Fpr) (wanted : ℕ) (uid : List ℕ) (n : ℕ)
    → HasGrown old new → RestsOn engine old view target wanted uid n → RestsOn engine new view target wanted uid n
rests_grown engine old new view target wanted uid n grown rests later on calm =
    rests later on (undisturbed_before later old new grown calm)

pub rests_later : (old new : Engine) (basis : Basis) (view : List ℕ) (target : Fpr) (wanted : ℕ) (uid : List ℕ) (n : ℕ)
    → IsKeptOn old new → RestsOn old basis view target wanted uid n → RestsOn new basis view target wanted uid n
rests_later old new basis view target wanted uid n on rests later further calm =
    rests later (engine_further old new later on further) calm

-- ---- what an answer depends on

-- a fingerprint whose stamp isn't above the old count is unaltered
unaltered_at : (k later : Keyring) (fpr : Fpr) → IsKeyringOn k later → stamp_at later fpr ≤ k.changes →
    IsUnaltered k later fpr
unaltered_at k later fpr on past = by (on.at fpr)
  where
    by : IsKeptAt k later fpr → IsUnaltered k later fpr
    by (inl u) = u
    by (inr given) = absurd (not_both k.changes (stamp_at later fpr) given past)

-- lookups at unaltered fingerprints find what was noted
pub still_on : (k later : Keyring) (roots : Amounts) (fprs : List Fpr) (looked : List Looked) → IsKeyringOn k later →
    AreCalm later k.changes fprs
    → AllIn fprs looked → AreStill k roots looked → AreStill later roots looked
still_on k later roots fprs [] on calm all still = tt
still_on k later roots fprs (l ∷ ls) on calm all still = (
  record {
    stamp = same_stamp k later l.fpr (unaltered_at k later l.fpr on (calm l.fpr all.0)) ∙ still.0.stamp;
    amount = still.0.amount;
  },
  still_on k later roots fprs ls on calm all.1 still.1,
)

-- a right answer depends only on the fingerprints that it consulted
pub answer_rests : (k : Keyring) (fprs : List Fpr) (view : View) (target : Fpr) (wanted : ℕ) (uid : List ℕ)
    (a : KeptAnswer)
    → IsRight k a → IsOf a target wanted uid view.time
    → ((later : Keyring) → IsKeyringOn k later → AreCalm later k.changes fprs → AllStill later view.roots a.looked)
    → RestsAt k k.changes fprs view target wanted uid a.answer.sum
answer_rests k fprs view target wanted uid a right is still later on calm = (
  a.answer.paths,
  of_question later view.roots a target wanted uid view.time is (right.answer later view.roots (on_later k later on)
      (still later on calm)),
  right.sum,
)

-- its sum does too, if all that it consulted is unchanged and in the basis
pub sum_rests : (k : Keyring) (fprs : List Fpr) (view : View) (target : Fpr) (wanted : ℕ) (uid : List ℕ)
    (a : KeptAnswer) (looked : Vec Looked Global)
    → a.looked ≡ Some looked → IsRight k a → IsOf a target wanted uid view.time → AreStill k view.roots looked.items →
    AllIn fprs looked.items
    → RestsAt k k.changes fprs view target wanted uid a.answer.sum
sum_rests k fprs view target wanted uid a looked there right is still all =
    answer_rests k fprs view target wanted uid a right is
    (λ later on calm. subst (AllStill later view.roots) (sym there) (still_on k later view.roots fprs looked.items on
    calm all still))

-- ---- what depends on a basis

-- for a view that is unchanged or closed
rests_seen : (engine later : Engine) (name : List ℕ) (target : Fpr) (wanted : ℕ) (uid : List ℕ) (n : ℕ) (v : View) →
    view_at engine.views name ≡ Some v
    → IsSameOrClosed (view_at engine.views name) (view_at later.views name) →
    HasAmount wanted n (question_on later.keyring v target uid)
    → OfQuestion later name target uid (HasAmount wanted n)
rests_seen engine later name target wanted uid n v found (inr closed) has =
    subst (λ (o : Option View). IfSome o (λ (v : View). HasAmount wanted n (question_in (state_of later) v target uid)))
    (sym closed) tt
rests_seen engine later name target wanted uid n v found (inl same) has =
    subst (λ (o : Option View). IfSome o (λ (v : View). HasAmount wanted n (question_in (state_of later) v target uid)))
    (sym (same ∙ found)) has

-- an amount that depends on some fingerprints depends on each basis that has them
pub engine_rests : (engine : Engine) (basis : Basis) (name : List ℕ) (target : Fpr) (wanted : ℕ) (uid : List ℕ) (n : ℕ)
    (v : View)
    → IsPresent engine basis → view_at engine.views name ≡ Some v
    → RestsAt engine.keyring engine.keyring.changes basis.fprs v target wanted uid n →
    RestsOn engine basis name target wanted uid n
engine_rests engine basis name target wanted uid n v now found rests later on calm =
    rests_seen engine later name target wanted uid n v found (on.views.each (calm.revisions ∙ now.revisions) name)
    (rests later.keyring on.keyring (λ fpr there. subst (λ m. stamp_at later.keyring fpr ≤ m) now.changes
    (calm.calm fpr there)))

-- with the amount as it is now
pub rests_now : (engine : Engine) (basis : Basis) (name : List ℕ) (target : Fpr) (wanted : ℕ) (uid : List ℕ) (n : ℕ)
    (v : View)
    → AreStamped engine.keyring.changes engine.keyring.certs → view_at engine.views name ≡ Some v
    → RestsAt engine.keyring engine.keyring.changes basis.fprs v target wanted uid n →
    OfQuestion engine name target uid (HasAmount wanted n)
rests_now engine basis name target wanted uid n v stamped found rests =
    rests_seen engine engine name target wanted uid n v found (inl refl)
    (rests engine.keyring (keyring_itself engine.keyring) (λ fpr there. stamp_past engine.keyring fpr stamped))

-- every answer depends on a basis that covers the whole keyring
pub whole_rests : (engine : Engine) (basis : Basis) (name : List ℕ) (target : Fpr) (wanted : ℕ) (uid : List ℕ) (n : ℕ)
    → IsPresent engine basis → basis.whole ≡ true → OfQuestion engine name target uid (HasAmount wanted n) →
    RestsOn engine basis name target wanted uid n
whole_rests engine basis name target wanted uid n now all has later on calm =
    let same : later.keyring ≡ engine.keyring = on.keyring.same (calm.whole all ∙ now.changes) in
    by (view_at engine.views name) refl (on.views.each (calm.revisions ∙ now.revisions) name) same has
  where
    by : (o : Option View) → view_at engine.views name ≡ o → IsSameOrClosed (view_at engine.views name)
        (view_at later.views name) → later.keyring ≡ engine.keyring
        → IfSome (view_at engine.views name)
        (λ (v : View). HasAmount wanted n (question_in (state_of engine) v target uid))
        → OfQuestion later name target uid (HasAmount wanted n)
    by None none (inl e) same h =
        subst (λ (o : Option View). IfSome o
        (λ (v : View). HasAmount wanted n (question_in (state_of later) v target uid))) (sym (e ∙ none)) tt
    by None none (inr closed) same h =
        subst (λ (o : Option View). IfSome o
        (λ (v : View). HasAmount wanted n (question_in (state_of later) v target uid))) (sym closed) tt
    by (Some v) found seen same h =
        let here : HasAmount wanted n (question_on engine.keyring v target uid) =
        subst (λ (o : Option View). IfSome o
        (λ (v : View). HasAmount wanted n (question_in (state_of engine) v target uid))) found h in
        rests_seen engine later name target wanted uid n v found seen
        (subst (λ (k : Keyring). HasAmount wanted n (question_on k v target uid)) (sym same) here)

-- ---- moving a basis forward

module _ {answers : AllAnswers} (engine : Engine) (k : Keyring) (views : Views) (networks : Networks) (revisions : Revisions)
    (seen : shown k views networks revisions answers ≡ engine) (old new : Basis) where
  pub stands_now : old.revisions ≡ revisions.count → AreCalm k old.changes old.fprs →
      (old.whole ≡ true → k.changes ≡ old.changes) → IsUndisturbed engine old
  stands_now same calm whole =
      subst (λ (e : Engine). IsUndisturbed e old) seen (record { revisions = sym same; calm = calm; whole = whole })

  pub still_now : (stands : Bool) (count : ℕ) → (old.revisions ≡ count → old.changes ≡ k.changes → stands ≡ true) →
      count ≡ revisions.count
      → IsPresent engine old → stands ≡ true
  still_now stands count is counted now =
      let here : IsPresent (shown k views networks revisions answers) old = subst (λ (e : Engine). IsPresent e old)
      (sym seen) now in
      is (here.revisions ∙ sym counted) here.changes

  pub moved_now : old.revisions ≡ revisions.count → new ≡ record old { changes = k.changes } → IsPresent engine new
  moved_now same moved =
      subst (λ (e : Engine). IsPresent e new) seen
      (subst (λ (b : Basis). IsPresent (shown k views networks revisions answers) b) (sym moved)
      (record { changes = refl; revisions = same }))

  moved_on : AreCalm k old.changes old.fprs → (old.whole ≡ true → k.changes ≡ old.changes) →
      CarriesOn (shown k views networks revisions answers) old (record old { changes = k.changes })
  moved_on calm whole later on undisturbed = record {
    revisions = undisturbed.revisions;
    calm = λ fpr is.
        let same = same_stamp k later.keyring fpr (unaltered_at k later.keyring fpr on.keyring
        (undisturbed.calm fpr is)) in
        subst (λ n. n ≤ old.changes) (sym same) (calm fpr is);
    whole = λ all. undisturbed.whole all ∙ whole all;
  }

  -- both if the basis was moved forward and if it wasn't
  pub carried_on : (stands : Bool) → (stands ≡ true → AreCalm k old.changes old.fprs) →
      (stands ≡ true → old.whole ≡ true → k.changes ≡ old.changes)
      → (stands ≡ true → new ≡ record old { changes = k.changes }) → (stands ≡ false → new ≡ old) →
      CarriesOn engine old new
  carried_on true calm whole moved kept =
      subst (λ (e : Engine). CarriesOn e old new) seen
      (subst (λ (b : Basis). CarriesOn (shown k views networks revisions answers) old b) (sym (moved refl))
      (moved_on (calm refl) (whole refl)))
  carried_on false calm whole moved kept = λ later on undisturbed. subst (λ (b : Basis). IsUndisturbed later b)
      (kept refl) undisturbed

-- ---- growing

pub grown_further : (a b c : Basis) → HasGrown a b → HasGrown b c → HasGrown a c
grown_further a b c h k = record {
  changes = k.changes ∙ h.changes;
  revisions = k.revisions ∙ h.revisions;
  fprs = λ fpr there. k.fprs fpr (h.fprs fpr there);
  whole = λ all. k.whole (h.whole all);
}

-- by more fingerprints
pub grown_by : (old : Basis) (fprs : List Fpr) → Includes old.fprs fprs → HasGrown old (record old { fprs = fprs })
grown_by old fprs more = record { changes = refl; revisions = refl; fprs = more; whole = λ all. all }

-- by the whole keyring
pub grown_whole : (old b new : Basis) → HasGrown old b → new ≡ record b { whole = true } → HasGrown old new
grown_whole old b new grown is =
    subst (λ (c : Basis). HasGrown old c) (sym is) (record {
      changes = grown.changes;
      revisions = grown.revisions;
      fprs =
          grown.fprs;
      whole = λ all. refl;
    })

pub present_on : (engine : Engine) (old new : Basis) → HasGrown old new → IsPresent engine old → IsPresent engine new
present_on engine old new grown now = record { changes = grown.changes ∙ now.changes; revisions = grown.revisions ∙ now.revisions }

-- ---- kept answers of a view

module _ {answers : AllAnswers} (engine : Engine) (k : Keyring) (views : Views) (networks : Networks) (revisions : Revisions)
    (seen : shown k views networks revisions answers ≡ engine) (name : List ℕ) (target : Fpr) (wanted : ℕ) (uid : List ℕ)
    (v : View) (found : Some v ≡ view_at views name) where
  at_view : view_at engine.views name ≡ Some v
  at_view = subst (λ (e : Engine). view_at e.views name ≡ Some v) seen (sym found)

  at_keyring : k ≡ engine.keyring
  at_keyring = ap (λ (e : Engine). e.keyring) seen

  abbrev Rests : Keyring → Basis → ℕ → Type 0
  Rests k basis n = RestsAt k k.changes basis.fprs v target wanted uid n

  pub found_rests : (o : Option ℕ) (old new : Basis) → HasGrown old new → IsPresent engine old →
      IfSome o (Rests k new) → IfSome o (RestsOn engine new name target wanted uid)
  found_rests None old new grown now rests = tt
  found_rests (Some n) old new grown now rests =
      engine_rests engine new name target wanted uid n v (present_on engine old new grown now) at_view
      (subst (λ (z : Keyring). Rests z new n) at_keyring rests)

  pub found_now : (o : Option ℕ) (new : Basis) → AreStamped k.changes k.certs → IfSome o (Rests k new) →
      IfSome o (λ n. OfQuestion engine name target uid (HasAmount wanted n))
  found_now None new stamped rests = tt
  found_now (Some n) new stamped rests =
      rests_now engine new name target wanted uid n v (subst (λ (z : Keyring). AreStamped z.changes z.certs) at_keyring
      stamped) at_view
      (subst (λ (z : Keyring). Rests z new n) at_keyring rests)

-- ---- after a question

pub stays_back : (old new : Engine) → StaysButMarks old new → StaysButMarks new old
stays_back old new stays = record { keyring = sym stays.keyring; views = sym stays.views; revisions = sym stays.revisions }

pub present_still : (old new : Engine) (basis : Basis) → StaysButMarks old new → IsPresent old basis →
    IsPresent new basis
present_still old new basis stays now = record {
  changes = now.changes ∙ ap (λ (k : Keyring). k.changes) (sym stays.keyring);
  revisions = now.revisions ∙ ap (λ (t : Revisions). t.count) (sym stays.revisions);
}

pub rests_before : (old new : Engine) (basis : Basis) (name : List ℕ) (target : Fpr) (wanted : ℕ) (uid : List ℕ)
    (n : ℕ) → StaysButMarks old new
    → RestsOn new basis name target wanted uid n → RestsOn old basis name target wanted uid n
rests_before old new basis name target wanted uid n stays rests =
    rests_later new old basis name target wanted uid n (engine_still new old (stays_back old new stays)) rests

pub question_before : (P : Question → Type 0) (old new : Engine) (name : List ℕ) (target : Fpr) (uid : List ℕ) →
    StaysButMarks old new
    → OfQuestion new name target uid P → OfQuestion old name target uid P
question_before P old new name target uid stays here =
    subst (λ (k : Keyring). IfSome (view_at old.views name) (λ (v : View). P (question_on k v target uid)))
    stays.keyring
    (subst (λ (vs : Views). IfSome (view_at vs name) (λ (v : View). P (question_on new.keyring v target uid)))
    stays.views here)

-- the answer's sum is its amount
pub sum_of_answer : (engine : Engine) (name : List ℕ) (target : Fpr) (wanted : ℕ) (uid : List ℕ) (a : Answer)
    → OfQuestion engine name target uid (λ q. IsAnswer q wanted a.paths) → a.sum ≡ amount_of a.paths →
    OfQuestion engine name target uid (HasAmount wanted a.sum)
sum_of_answer engine name target wanted uid a here sum = if_some (view_at engine.views name) _ _
    (λ v is. (a.paths, is, sum)) here

pub refreshed_as : {A B T E : Type 0} (r : Result A B) (s : Result T E) (name : List ℕ) (old new : Engine)
    (before after : ℕ) → (is_ok s ≡ true → is_ok r ≡ true)
    → IsRefreshed r name old new before after → IsRefreshed s name old new before after
refreshed_as r s name old new before after less is = record {
  stays = is.stays;
  made = made_as (view_at old.views name) r s old.keyring (end_at old name before) (end_at new name after) less
      is.made;
  others = is.others;
  closed = is.closed;
}

-- an error says the same whatever the type of the answer
pub open_as : (A B : Type 0) (fault : AskFault) (o : Option View) → TellsOpen {T = A} (Err fault) o →
    TellsOpen {T = B} (Err fault) o
open_as A B asked.View o network = network
open_as A B asked.Memory o network = network

-- ---- the fingerprints of a basis

pub includes_on : (a b c : List Fpr) → Includes a b → Includes b c → Includes a c
includes_on a b c h k fpr there = k fpr (h fpr there)

-- inserting into a set only adds to it
pub updated_more : (fpr : Fpr) (old new : List Fpr) →
    ((q : Fpr) → is_in q new ≡ cond (is_fpr fpr q) true (is_in q old)) → Includes old new
updated_more fpr old new update q there = update q ∙ by (is_fpr fpr q) there
  where
    by : (b : Bool) → is_in q old ≡ true → cond b true (is_in q old) ≡ true
    by true t = refl
    by false t = t

-- one more fingerprint is in the basis
pub put_in : (looked rest later : List Looked) (first : Looked) (old new : List Fpr) → rest ≡ first ∷ later
    → ((fprs : List Fpr) → Includes old fprs → AllIn fprs rest → AllIn fprs looked) → Includes old new →
    is_in first.fpr new ≡ true
    → (fprs : List Fpr) → Includes new fprs → AllIn fprs later → AllIn fprs looked
put_in looked rest later first old new split all grows there fprs more those =
    all fprs (includes_on old new fprs grows more) (subst (λ (ls : List Looked). AllIn fprs ls) (sym split)
    (more first.fpr there, those))

other_fpr : (fprs : List Fpr) (fpr other : Fpr) → is_in fpr fprs ≡ true → is_in other fprs ≡ false →
    is_fpr fpr other ≡ false
other_fpr fprs fpr other there apart = by (is_fpr fpr other) refl
  where
    clash : is_in fpr fprs ≡ true → is_in fpr fprs ≡ false → ⊥
    clash a b = let never : true ≡ false = sym a ∙ b in cc

    by : (b : Bool) → is_fpr fpr other ≡ b → b ≡ false
    by true same = absurd (clash there (subst (λ (f : Fpr). is_in f fprs ≡ false) (sym (same_fpr-true fpr other same))
        apart))
    by false e = refl

-- one more changed fingerprint isn't in the basis
pub free_more : (fprs : List Fpr) (changed rest later : Logged) (first : ℕ × Fpr) → rest ≡ first ∷ later →
    (IsFreeOf fprs rest → IsFreeOf fprs changed)
    → is_in first.1 fprs ≡ false → IsFreeOf fprs later → IsFreeOf fprs changed
free_more fprs changed rest later first split all apart free =
    all (subst (λ (es : Logged). IsFreeOf fprs es) (sym split)
    (λ fpr there. ap (λ b. b || is_listed fpr later) (other_fpr fprs fpr first.1 there apart) ∙ free fpr there))

-- a fingerprint that isn't in the log has a stamp of at most the count
pub calm_by : (k : Keyring) (count : ℕ) (fprs : List Fpr) (changed : Logged) → HasChangedSince k count changed →
    IsFreeOf fprs changed → AreCalm k count fprs
calm_by k count fprs changed since free fpr there = by (nat_le (stamp_at k fpr) count) refl
  where
    clash : is_listed fpr changed ≡ true → is_listed fpr changed ≡ false → ⊥
    clash a b = let never : true ≡ false = sym a ∙ b in cc

    by : (b : Bool) → nat_le (stamp_at k fpr) count ≡ b → stamp_at k fpr ≤ count
    by true e = leb-true (stamp_at k fpr) count e
    by false e = absurd (clash (since fpr (leb-false (stamp_at k fpr) count e)) (free fpr there))
