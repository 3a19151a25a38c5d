-- Asking over the parts that a view shows is asking the view's question.
use Rattle.std.proofs.Common.{◌≡◌, ℕ, ◌≤◌, List, length, Option, Some, None, refl, sym, ap, subst}
use Rattle.std.proofs.Common.{◌∙◌, arith}
use Rattle.std.specs.Prelude.{IfSome, IsSomeAnd}
use Rattle.wot_types.specs.declared.fpr.Fpr.{Fpr}
use Rattle.wot_types.specs.declared.limits.Limits.{Limits}
use Rattle.wot_edge.specs.Path.{Question}
use Rattle.wot_auth.specs.declared.answer.Answer.{Answer}
use Rattle.wot_keyring_spec.specs.Keyring.{Keyring}
use Rattle.wot_network.specs.Net.{IsRight, Net, Present}
use Rattle.wot_network.specs.Roads.{present_of}
use Rattle.wot_answers.specs.declared.parts.Parts.{Parts}
use Rattle.wot_cache.specs.declared.view.View.{View}
use Rattle.wot_answers.specs.Answers.{AllAnswers, AreAllRight}
use Rattle.wot_cache.specs.Inside.{IsEngine, IsReady, Networks, network_at}
use Rattle.wot_cache.specs.Parts.{ArePartsOf}
use Rattle.wot_cache.specs.Question.{IsLocalTo, IsTold, asked_of, asked_over, present_in, question_in}
use Rattle.wot_cache.specs.Dump.{engine_of}
use Rattle.wot_cache.specs.State.{Engine, ViewMarks, state_of}
use Rattle.wot_cache.specs.Revisions.{Revisions}
use Rattle.wot_cache.specs.Views.{AreWithinLimits, Views, view_at}
use Rattle.wot_cache.proofs.Inside.{few_there}

-- an engine with only its networks replaced keeps its keyring and views
pub same_engine : {marks : ViewMarks} {revisions : Revisions} {answers : AllAnswers} (engine : Engine) (k new : Keyring)
    (views more : Views) → record { keyring = k; views = views; marks = marks; revisions = revisions; answers = answers } ≡ engine
    → new ≡ k → more ≡ views → engine_of new more ≡ engine_of engine.keyring engine.views
same_engine engine k new views more seen same equal =
    ap (λ (k : Keyring). engine_of k more) same ∙ ap (λ (vs : Views). engine_of k vs) equal
    ∙ ap (λ (e : Engine). engine_of e.keyring e.views) seen

-- the parts are those of the open view of this name
abbrev pub AreSeen : Engine → List ℕ → Parts → Type 0
AreSeen engine name p = IsSomeAnd (view_at engine.views name) (λ (v : View). ArePartsOf engine.keyring v p)

-- a fact of every view with these parts holds of the view of that name
pub of_view : (o : Option View) (k : Keyring) (p : Parts) (P : View → Type 0) → ((v : View) → ArePartsOf k v p → P v)
    → IsSomeAnd o (λ (v : View). ArePartsOf k v p) → IfSome o P
of_view None k p P step seen = tt
of_view (Some v) k p P step seen = step v seen

-- a fact of the question over the parts holds of the view's question
pub as_asked : (P : Question → Type 0) (engine : Engine) (name : List ℕ) (p : Parts) (target : Fpr) (uid : List ℕ) →
    AreSeen engine name p
    → P (asked_over (present_of p.roads) p.roots.now target uid) →
    IfSome (view_at engine.views name) (λ (v : View). P (question_in (state_of engine) v target uid))
as_asked P engine name p target uid seen holds =
    of_view (view_at engine.views name) engine.keyring p (λ v. P (question_in (state_of engine) v target uid)) (λ v are.
    subst (λ (present : Present). P (asked_over present v.roots target uid)) are.roads
    (subst (λ (roots : List (Fpr × ℕ)). P (asked_over (present_of p.roads) roots target uid)) are.roots holds)) seen

-- the parts are still those of the view after the engine's networks are replaced
pub seen_after : {marks : ViewMarks} {revisions : Revisions} {answers : AllAnswers} (engine : Engine) (k new : Keyring)
    (views more : Views) (name : List ℕ) (p : Parts)
    → record { keyring = k; views = views; marks = marks; revisions = revisions; answers = answers } ≡ engine → new ≡ k
    → more ≡ views →
    IsSomeAnd (view_at more name) (λ (v : View). ArePartsOf new v p) → AreSeen engine name p
seen_after engine k new views more name p is same equal seen =
    subst (λ (e : Engine). AreSeen e name p) (same_engine engine k new views more is same equal) seen

few_of : (limits : Limits) (k : Keyring) (views : Views) (name : List ℕ) (p : Parts) → AreWithinLimits limits views →
    limits.roots ≤ 64
    → IsSomeAnd (view_at views name) (λ (v : View). ArePartsOf k v p) → length p.roots.now ≤ 64
few_of limits k views name p within small seen = by (view_at views name) refl seen
  where
    by : (o : Option View) → view_at views name ≡ o → IsSomeAnd o (λ (v : View). ArePartsOf k v p) →
        length p.roots.now ≤ 64
    by None found are = absurd are
    by (Some v) found are =
        let few = few_there limits views name v within found in
        let same : length p.roots.now ≡ length v.roots = ap length are.roots in
        omega (arith, few, small, same)

-- the parts have no more roots than the limit allows
pub few_seen : {marks : ViewMarks} {revisions : Revisions} (engine : Engine) (k : Keyring) (views : Views) (networks : Networks)
    (answers : AllAnswers) (name : List ℕ) (p : Parts)
    → record { keyring = k; views = views; marks = marks; revisions = revisions; answers = answers } ≡ engine →
    IsEngine k views networks answers revisions → AreSeen engine name p → length p.roots.now ≤ 64
few_seen engine k views networks answers name p same inside seen =
    few_of k.limits engine.keyring engine.views name p (subst (λ (e : Engine). AreWithinLimits k.limits e.views) same
    inside.within) inside.small.roots seen

-- what is local at the time of a view's network is local at the view's time
pub local_from : (k : Keyring) (views : Views) (networks : Networks) (name : List ℕ) (shown : View) (n : Net)
    (p : Present)
    → view_at views name ≡ Some shown → network_at networks name ≡ Some n → IsReady k views networks name →
    IsLocalTo k n.time p
    → IfSome (view_at views name) (λ (v : View). IsLocalTo k v.time p)
local_from k views networks name shown n p found kept ready h =
    let there : IsSomeAnd (network_at networks name) (λ (n : Net). IsRight n k shown.time) =
    subst (λ (o : Option View). IsSomeAnd o (λ (v : View). IsSomeAnd (network_at networks name)
    (λ (n : Net). IsRight n k v.time))) found ready in
    let right : IsRight n k shown.time = subst (λ (o : Option Net). IsSomeAnd o (λ (n : Net). IsRight n k shown.time))
    kept there in
    subst (λ (o : Option View). IfSome o (λ (v : View). IsLocalTo k v.time p)) (sym found)
    (subst (λ (t : ℕ). IsLocalTo k t p) right.time h)

pub time_seen : (engine : Engine) (name : List ℕ) (p : Parts) → AreSeen engine name p
    → IfSome (view_at engine.views name) (λ (v : View). (present_of p.roads).time ≡ v.time)
time_seen engine name p seen =
    of_view (view_at engine.views name) engine.keyring p (λ v. (present_of p.roads).time ≡ v.time)
    (λ v are. ap (λ (p : Present). p.time) are.roads) seen

pub keyring_seen : (engine : Engine) (name : List ℕ) (p : Parts) → AreSeen engine name p →
    (present_of p.roads).keyring ≡ engine.keyring
keyring_seen engine name p = by (view_at engine.views name)
  where
    by : (o : Option View) → IsSomeAnd o (λ (v : View). ArePartsOf engine.keyring v p) →
        (present_of p.roads).keyring ≡ engine.keyring
    by None are = absurd are
    by (Some v) are = ap (λ (p : Present). p.keyring) are.roads

-- ---- answers

-- the parts have the keyring and the time of their roads
pub present_seen : (engine : Engine) (name : List ℕ) (p : Parts) → AreSeen engine name p →
    present_of p.roads ≡ present_in p
present_seen engine name p = by (view_at engine.views name)
  where
    by : (o : Option View) → IsSomeAnd o (λ (v : View). ArePartsOf engine.keyring v p) →
        present_of p.roads ≡ present_in p
    by None are = absurd are
    by (Some v) are =
        are.roads ∙ sym (ap (λ (k : Keyring). record { keyring = k; time = p.t }) are.keyring
        ∙ ap (λ (t : ℕ). record { keyring = engine.keyring; time = t }) are.time)

-- kept answers that are right in the engine's keyring are right in the keyring of the parts
pub right_seen : {marks : ViewMarks} {revisions : Revisions} (engine : Engine) (k : Keyring) (views : Views) (name : List ℕ)
    (p : Parts) (answers : AllAnswers)
    → record { keyring = k; views = views; marks = marks; revisions = revisions; answers = answers } ≡ engine
    → AreSeen engine name p → AreAllRight k answers → AreAllRight p.keyring.now answers
right_seen engine k views name p answers same seen right = by (view_at engine.views name) seen
  where
    by : (o : Option View) → IsSomeAnd o (λ (v : View). ArePartsOf engine.keyring v p) →
        AreAllRight p.keyring.now answers
    by None are = absurd are
    by (Some v) are = subst (λ (k : Keyring). AreAllRight k answers) (ap (λ (e : Engine). e.keyring) same
        ∙ sym are.keyring) right

-- the converse
pub right_kept : {marks : ViewMarks} {revisions : Revisions} {before : AllAnswers} (engine : Engine) (k new : Keyring)
    (views : Views) (name : List ℕ) (p : Parts) (answers : AllAnswers)
    → record { keyring = k; views = views; marks = marks; revisions = revisions; answers = before } ≡ engine
    → new ≡ k → AreSeen engine name p → AreAllRight p.keyring.now answers → AreAllRight new answers
right_kept engine k new views name p answers same equal seen right = by (view_at engine.views name) seen
  where
    by : (o : Option View) → IsSomeAnd o (λ (v : View). ArePartsOf engine.keyring v p) → AreAllRight new answers
    by None are = absurd are
    by (Some v) are = subst (λ (k : Keyring). AreAllRight k answers) (are.keyring
        ∙ sym (ap (λ (e : Engine). e.keyring) same) ∙ sym equal) right

-- each claim about an answer over the parts is that claim about the view's question
pub told_seen : (engine : Engine) (name : List ℕ) (p : Parts) (target : Fpr) (uid : List ℕ) (wanted : ℕ) (a : Answer) →
    AreSeen engine name p
    → IsTold (asked_of p target uid) wanted a →
    IfSome (view_at engine.views name) (λ (v : View). IsTold (question_in (state_of engine) v target uid) wanted a)
told_seen engine name p target uid wanted a seen network =
    as_asked (λ (q : Question). IsTold q wanted a) engine name p target uid seen
    (subst (λ (present : Present). IsTold (asked_over present p.roots.now target uid) wanted a)
    (sym (present_seen engine name p seen)) network)
