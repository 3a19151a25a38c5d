-- What is kept after a step was kept before it, or was found in it.
use Rattle.std.proofs.Common.{◌≡◌, inl, inr, ◌⊎◌, ℕ, Bool, true, false, cond, List, [], ◌∷◌, Option, Some, None, refl}
use Rattle.std.proofs.Common.{Result, Ok, Err, OnOk, OnErr, sym, ap, subst, ◌∙◌}
use Rattle.std.specs.Prelude.{IsSomeAnd}
use Rattle.std.specs.BTreeMap.{insert_entry, is_at}
use Rattle.std.specs.Map.{lookup, set_value}
use Rattle.std.specs.Option.{option_map_or}
use Rattle.std.specs.Ordering.{match_ordering, nat_cmp}
use Rattle.std.specs.declared.cmp.Ordering.{Ordering}
use Rattle.std.specs.declared.cmp.Ordering.TheVariants.{Less, Equal, Greater}
use Rattle.wot_types.specs.declared.fpr.Fpr.{Fpr}
use Rattle.wot_keyring_spec.specs.Keyring.{Keyring}
use Rattle.wot_answers.specs.declared.answers.KeptAnswer.{KeptAnswer}
use Rattle.wot_answers.specs.declared.asked.Asked.{Asked}
use Rattle.wot_answers.specs.declared.parts.Parts.{Parts}
use Rattle.wot_answers.specs.Answers.{AllAnswers, Entries, IsFoundBy, IsSameBut, OfView, WasKept}
use Rattle.wot_answers.specs.Answers.{WereKept, WereKeptOr, answers_for, kept_under}
use Rattle.wot_answers.specs.Asked.{IsFoundOver}
use Rattle.wot_answers.specs.Names.{is_name}

-- ---- what a map finds after a change

some_first : {X : Type 0} (q : Bool) (v a : X) (rest : Option X) → cond q (Some v) rest ≡ Some a
    → (rest ≡ Some a) ⊎ (a ≡ v)
some_first true v a rest e = inr cc
some_first false v a rest e = inl e

some_same : {X : Type 0} (q : Bool) (v w a : X) (rest : Option X) → cond q (Some v) rest ≡ Some a
    → (cond q (Some w) rest ≡ Some a) ⊎ (a ≡ v)
some_same true v w a rest e = inr cc
some_same false v w a rest e = inl e

some_later : {X : Type 0} (q : Bool) (w v a : X) (old new : Option X) → (new ≡ Some a → (old ≡ Some a) ⊎ (a ≡ v))
    → cond q (Some w) new ≡ Some a → (cond q (Some w) old ≡ Some a) ⊎ (a ≡ v)
some_later true w v a old new rest e = inl e
some_later false w v a old new rest e = rest e

-- what is found after an insertion was there before, or was inserted
pub found_put : {K X : Type 0} (query : K → Bool) (cmp : K → K → Ordering) (es : List (K × X)) (k : K) (v a : X)
    → lookup query (insert_entry cmp es k v) ≡ Some a → (lookup query es ≡ Some a) ⊎ (a ≡ v)
found_put query cmp [] k v a e = some_first (query k) v a None e
found_put query cmp (x ∷ es) k v a e = by (found_put query cmp es k v a) (cmp k x.0) e
  where
    by : (lookup query (insert_entry cmp es k v) ≡ Some a → (lookup query es ≡ Some a) ⊎ (a ≡ v)) → (o : Ordering)
        → lookup query (match_ordering o ((k, v) ∷ x ∷ es) ((x.0, v) ∷ es) (x ∷ insert_entry cmp es k v)) ≡ Some a
        → (cond (query x.0) (Some x.1) (lookup query es) ≡ Some a) ⊎ (a ≡ v)
    by rest Less = some_first (query k) v a (cond (query x.0) (Some x.1) (lookup query es))
    by rest Equal = some_same (query x.0) v x.1 a (lookup query es)
    by rest Greater = some_later (query x.0) x.1 v a (lookup query es) (lookup query (insert_entry cmp es k v)) rest

some_set : {X : Type 0} (q : Bool) (v w a : X) (rest : Option X) → cond q (Some v) rest ≡ Some a
    → (cond q (Some w) rest ≡ Some a) ⊎ (a ≡ v) × (cond q (Some w) rest ≡ Some w)
some_set true v w a rest e = inr (cc, refl)
some_set false v w a rest e = inl e

some_set_later : {X : Type 0} (q : Bool) (w v a : X) (old new there : Option X)
    → (new ≡ Some a → (old ≡ Some a) ⊎ (a ≡ v) × (old ≡ there))
    → cond q (Some w) new ≡ Some a → (cond q (Some w) old ≡ Some a) ⊎ (a ≡ v) × (cond q (Some w) old ≡ there)
some_set_later true w v a old new there rest e = inl e
some_set_later false w v a old new there rest e = rest e

-- what is found after a value was set was there before, or is that value in the place of the one before it
pub found_set : {K X : Type 0} (query test : K → Bool) (es : List (K × X)) (v a : X)
    → lookup query (set_value test es v) ≡ Some a
    → (lookup query es ≡ Some a) ⊎ (a ≡ v) × (lookup query es ≡ lookup test es)
found_set query test [] v a e = inl e
found_set query test (x ∷ es) v a e = by (found_set query test es v a) (test x.0) e
  where
    by : (lookup query (set_value test es v) ≡ Some a
        → (lookup query es ≡ Some a) ⊎ (a ≡ v) × (lookup query es ≡ lookup test es))
        → (b : Bool) → lookup query (cond b ((x.0, v) ∷ es) (x ∷ set_value test es v)) ≡ Some a
        → (cond (query x.0) (Some x.1) (lookup query es) ≡ Some a)
        ⊎ (a ≡ v) × (cond (query x.0) (Some x.1) (lookup query es) ≡ cond b (Some x.1) (lookup test es))
    by rest true = some_set (query x.0) v x.1 a (lookup query es)
    by rest false =
        some_set_later (query x.0) x.1 v a (lookup query es) (lookup query (set_value test es v)) (lookup test es) rest

-- ---- one step

-- nothing differs but the count and the revision, also from what the one before it was
same_further : (a b c : KeptAnswer) → IsSameBut a b → IsSameBut b c → IsSameBut a c
same_further a b c first second =
    second ∙ ap (λ (x : KeptAnswer). record x { count = c.count; revision = c.revision }) first

was_further : (o : Option KeptAnswer) (b c : KeptAnswer) → IsSomeAnd o (λ (a : KeptAnswer). IsSameBut a b)
    → IsSameBut b c → IsSomeAnd o (λ (a : KeptAnswer). IsSameBut a c)
was_further None b c was same = was
was_further (Some a) b c was same = same_further a b c was same

was_there : (o : Option KeptAnswer) (a : KeptAnswer) → o ≡ Some a
    → IsSomeAnd o (λ (before : KeptAnswer). IsSameBut before a)
was_there None a e = absurd cc
was_there (Some x) a e = let same : a ≡ x = cc in subst (λ (x : KeptAnswer). IsSameBut x a) same refl

-- what was kept is still kept
pub kept_itself : (entries : Entries) → WereKept entries entries
kept_itself entries key a e = was_there (kept_under entries key) a e

pub kept_none : (entries : Entries) → WereKept entries []
kept_none entries key a e = absurd cc

-- an answer was added
pub kept_put : (entries : Entries) (key : ℕ) (a : KeptAnswer)
    → WereKeptOr (IsSameBut a) entries (insert_entry nat_cmp entries key a)
kept_put entries key a at found e =
    elim (found_put (is_at (nat_cmp at)) nat_cmp entries key a found e) [
      | inl there ↦ inl (was_there (kept_under entries at) found there)
      | inr same ↦ inr (subst (λ (x : KeptAnswer). IsSameBut a x) (sym same) refl)
    ]

-- an answer was found valid again
pub kept_set : (entries : Entries) (key : ℕ) (old new : KeptAnswer) → kept_under entries key ≡ Some old
    → IsSameBut old new → WereKept entries (set_value (is_at (nat_cmp key)) entries new)
kept_set entries key old new there same at found e =
    elim (found_set (is_at (nat_cmp at)) (is_at (nat_cmp key)) entries new found e) [
      | inl before ↦ was_there (kept_under entries at) found before
      | inr set ↦
          subst (λ (o : Option KeptAnswer). IsSomeAnd o (λ (before : KeptAnswer). IsSameBut before found))
          (sym (set.1 ∙ there)) (subst (λ (x : KeptAnswer). IsSameBut old x) (sym set.0) same)
    ]

-- ---- steps in revision

pub kept_or : (Found : KeptAnswer → Type 0) (old new : Entries) → WereKept old new → WereKeptOr Found old new
kept_or Found old new kept key a e = inl (kept key a e)

-- a fact that the count and the revision don't matter to
abbrev pub Carries : (KeptAnswer → Type 0) → Type 0
Carries Found = (a b : KeptAnswer) → IsSameBut a b → Found a → Found b

-- after two steps, each of which only adds what was found
pub kept_further : (Found : KeptAnswer → Type 0) → Carries Found → (old mid new : Entries) → WereKeptOr Found old mid
    → WereKeptOr Found mid new → WereKeptOr Found old new
kept_further Found carries old mid new first second key a e = by (second key a e)
  where
    there : (o : Option KeptAnswer) → kept_under mid key ≡ o → IsSomeAnd o (λ (b : KeptAnswer). IsSameBut b a)
        → WasKept old key a ⊎ Found a
    there None f was = absurd was
    there (Some b) f same = elim (first key b f) [
      | inl was ↦ inl (was_further (kept_under old key) b a was same)
      | inr found ↦ inr (carries b a same found)
    ]

    by : WasKept mid key a ⊎ Found a → WasKept old key a ⊎ Found a
    by (inl was) = there (kept_under mid key) refl was
    by (inr found) = inr found

-- what was added is what was found
pub kept_as : (Found : KeptAnswer → Type 0) → Carries Found → (old new : Entries) (a : KeptAnswer) → Found a
    → WereKeptOr (IsSameBut a) old new → WereKeptOr Found old new
kept_as Found carries old new a found kept key x e = elim (kept key x e) [
  | inl was ↦ inl was
  | inr same ↦ inr (carries a x same found)
]

pub but_carries : (a : KeptAnswer) → Carries (IsSameBut a)
but_carries a b c same first = same_further a b c first same

-- what was found is also found with another count and revision
found_carries : (k : Keyring) (target : Fpr) (wanted : ℕ) (uid : List ℕ) (t : ℕ)
    → Carries (IsFoundBy k target wanted uid t)
found_carries k target wanted uid t a b same found =
    subst (IsFoundBy k target wanted uid t) (sym same) (record {
      of = record {
        target = found.of.target;
        wanted = found.of.wanted;
        uid = found.of.uid;
        time = found.of.time;
      };
      leads = found.leads;
    })

pub over_carries : (p : Parts) (asked : Asked) → Carries (IsFoundOver p asked)
over_carries p asked = found_carries p.keyring.now asked.target.now asked.wanted asked.uid.now p.t

-- ---- the answers of all views

abbrev entries_by : Option OfView → Entries
entries_by o = option_map_or (λ (of_view : OfView). of_view.entries) o []

set_there : {K X : Type 0} (test : K → Bool) (es : List (K × X)) (v w : X) → lookup test es ≡ Some v
    → lookup test (set_value test es w) ≡ Some w
set_there test [] v w e = absurd cc
set_there test (x ∷ es) v w e = by (set_there test es v w) (test x.0) refl e
  where
    by : (lookup test es ≡ Some v → lookup test (set_value test es w) ≡ Some w) → (b : Bool) → test x.0 ≡ b
        → cond b (Some x.1) (lookup test es) ≡ Some v
        → lookup test (cond b ((x.0, w) ∷ es) (x ∷ set_value test es w)) ≡ Some w
    by rest true is e = ap (λ (q : Bool). cond q (Some w) (lookup test es)) is
    by rest false is e = ap (λ (q : Bool). cond q (Some x.1) (lookup test (set_value test es w))) is ∙ rest e

-- the named view has the answers of an entry that is found
pub kept_there : (Found : KeptAnswer → Type 0) (name : List ℕ) (old : AllAnswers) (before after : OfView)
    → lookup (is_name name) old ≡ Some before → WereKeptOr Found before.entries after.entries
    → WereKeptOr Found (answers_for name old) (answers_for name (set_value (is_name name) old after))
kept_there Found name old before after was kept =
    subst (λ (o : Option OfView). WereKeptOr Found (entries_by o)
    (answers_for name (set_value (is_name name) old after))) (sym was)
    (subst (λ (o : Option OfView). WereKeptOr Found before.entries (entries_by o))
    (sym (set_there (is_name name) old before after was)) kept)

-- its first answers are kept, or none are
pub kept_first : {A E : Type 0} (Found : KeptAnswer → Type 0) (name : List ℕ) (old new : AllAnswers)
    (before after : OfView) (r : Result A E) → OnOk r (lookup (is_name name) new ≡ Some after) → OnErr r (new ≡ old)
    → before.entries ≡ [] → WereKeptOr Found before.entries after.entries
    → WereKeptOr Found (answers_for name old) (answers_for name new)
kept_first Found name old new before after (Ok done) is same none kept key a e =
    elim (kept key a (ap (λ (o : Option OfView). kept_under (entries_by o) key) (sym is) ∙ e)) [
      | inl was ↦ absurd (subst (λ (es : Entries). WasKept es key a) none was)
      | inr found ↦ inr found
    ]
kept_first Found name old new before after (Err fault) is same none kept key a e =
    inl (was_there (kept_under (answers_for name old) key) a
    (ap (λ (views : AllAnswers). kept_under (answers_for name views) key) (sym same) ∙ e))

-- ---- what is given to the next step

pub kept_on : (Found : KeptAnswer → Type 0) (old mid new : Entries) → mid ≡ old → WereKeptOr Found mid new
    → WereKeptOr Found old new
kept_on Found old mid new same kept = subst (λ (es : Entries). WereKeptOr Found es new) same kept
