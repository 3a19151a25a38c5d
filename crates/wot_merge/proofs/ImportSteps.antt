-- The steps of an import, one after the other.
use Rattle.std.proofs.Common.{◌≡◌, ◌≤◌, ◌+◌, ◌-◌, ◌^◌, max, min, ℕ, false, ◌||◌, List, [], ◌∷◌, Option}
use Rattle.std.proofs.Common.{Some, None, sym, ap, ◌∙◌, subst, refl, arith}
use Rattle.std.specs.declared.cmp.Ordering.TheVariants.{Less, Equal, Greater}
use Rattle.std.specs.Ordering.{match_ordering, ordering_reverse}
use Rattle.std.specs.List.{AllByRecursion}
use Rattle.std.specs.List.Sorted.{IsStrictlySortedBy}
use Rattle.std.specs.BTreeMap.{insert_entry}
use Rattle.std.specs.Map.{keys_of}
use Rattle.wot_types.specs.declared.fpr.Fpr.{Fpr}
use Rattle.wot_types.specs.Fpr.{fpr_cmp}
use Rattle.wot_types.specs.FprLaws.{fpr_total}
use Rattle.wot_key.specs.Key.{fpr_of}
use Rattle.wot_policy.specs.declared.policy.Policy.{Policy}
use Rattle.wot_policy.specs.declared.rows.PolicyRows.{PolicyRows}
use Rattle.wot_policy.specs.Kept.{asked_more}
use Rattle.wot_component.specs.Certificate.{Certificate, unite}
use Rattle.wot_component.specs.Counts.{items_of}
use Rattle.wot_component.specs.Judged.{judged, sound_of}
use Rattle.wot_keyring_spec.specs.declared.kept.Kept.{Kept}
use Rattle.wot_merge.specs.declared.undo.Was.{Was as TheWas}
use Rattle.wot_merge.specs.declared.staging.Fault.{Fault}
use Rattle.wot_merge.specs.declared.staging.Fault.TheVariants.{Clash, Memory}
use Rattle.wot_merge.specs.declared.staging.Step.{Step}
use Rattle.wot_merge.specs.declared.staging.Terms.{Terms}
use Rattle.wot_merge.specs.declared.tally.Tally.{Tally}
use Rattle.wot_keyring_spec.specs.Keyring.{Entries}
use Rattle.wot_keyring_spec.specs.Kept.{AreSortedByFpr, AreJudged}
use Rattle.wot_merge.specs.Staging.{found_for, found_by, joined, kept_as, kept_with, kept_all, clash_at, clash_in}
use Rattle.wot_merge.specs.Staging.{weigh_kept, staged_as, IsTally, StillLeadsBack, IsClashTold}
use Rattle.wot_merge.specs.Staging.{CanMove, IsMergedOn, Moves}
use Rattle.wot_merge.proofs.Steps.{fresh_moved, judged_moved, may_move, put_with, tally_moved, weighs_by}

-- ---- order

less_all : (a : Fpr) (es : Entries) (k : Fpr) (v : Kept) → AllByRecursion (λ y. fpr_cmp a y ≡ Less) (keys_of es) →
    fpr_cmp a k ≡ Less → AllByRecursion (λ y. fpr_cmp a y ≡ Less) (keys_of (insert_entry fpr_cmp es k v))
less_all a [] k v all less = (less, tt)
less_all a (e ∷ es) k v all less =
    elim (fpr_cmp k e.0) as (λ r. AllByRecursion (λ y. fpr_cmp a y ≡ Less)
    (keys_of (match_ordering r ((k, v) ∷ e ∷ es) ((e.0, v) ∷ es) (e ∷ insert_entry fpr_cmp es k v)))) [
      | Less ↦ (less, all)
      | Equal ↦ all
      | Greater ↦ (all.0, less_all a es k v all.1 less)
    ]

below_all : (a b : Fpr) (ks : List Fpr) → fpr_cmp a b ≡ Less → AllByRecursion (λ y. fpr_cmp b y ≡ Less) ks →
    AllByRecursion (λ y. fpr_cmp a y ≡ Less) ks
below_all a b [] less all = tt
below_all a b (k ∷ ks) less all = (fpr_total.trans a b k less all.0, below_all a b ks less all.1)

pub sorted_insert : (es : Entries) (k : Fpr) (v : Kept) → AreSortedByFpr es →
    AreSortedByFpr (insert_entry fpr_cmp es k v)
unfolding IsStrictlySortedBy
sorted_insert [] k v sorted = (tt, sorted)
sorted_insert (e ∷ es) k v sorted =
    elim (fpr_cmp k e.0) as (λ r. fpr_cmp k e.0 ≡ r →
    AreSortedByFpr (match_ordering r ((k, v) ∷ e ∷ es) ((e.0, v) ∷ es) (e ∷ insert_entry fpr_cmp es k v))) [
      | Less ↦ λ less. ((less, below_all k e.0 (keys_of es) less sorted.0), sorted)
      | Equal ↦ λ equal. sorted
      | Greater ↦ λ greater. (
        less_all e.0 es k v sorted.0 (fpr_total.antisymm e.0 k ∙ ap ordering_reverse greater),
        sorted_insert es k v sorted.1,
      )
    ] refl

-- ---- what is kept grows

grown : (v f w n : ℕ) → v + f ≡ w + n → f ≤ n → w ≤ v
grown v f w n e h = omega arith

chain : (a b c : ℕ) → a ≤ b → b ≤ c → a ≤ c
chain a b c h k = omega arith

reach : (a : ℕ) → a ≤ a
reach a = omega arith

none_least : (a : ℕ) → 0 ≤ a
none_least a = omega arith

module _ (measure : Certificate → ℕ) (grows : (a b : Certificate) → measure a ≤ measure (unite a b)) (rows : PolicyRows)
    (stamp : ℕ) where
  found_less : (found : Option Kept) (c : Certificate) → found_by measure found ≤ measure (joined rows found c)
  found_less None c = none_least (measure (judged rows c))
  found_less (Some x) c = grows x.cert (judged rows c)

  pub more_with : (es : Entries) (c : Certificate) → AreSortedByFpr es → weigh_kept measure es ≤ weigh_kept measure
      (kept_with rows stamp es c)
  more_with es c sorted = grown _ _ _ _ (weighs_by measure es (fpr_of c.key) (kept_as rows stamp (found_for es c) c)
      sorted) (found_less (found_for es c) c)

  pub more_in_all : (es : Entries) (cs : List Certificate) → AreSortedByFpr es →
      weigh_kept measure es ≤ weigh_kept measure (kept_all rows stamp es cs)
  more_in_all es [] sorted = reach (weigh_kept measure es)
  more_in_all es (c ∷ cs) sorted =
      chain _ _ _ (more_with es c sorted) (more_in_all (kept_with rows stamp es c) cs
      (sorted_insert es (fpr_of c.key) (kept_as rows stamp (found_for es c) c) sorted))

-- ---- how often the policy was asked

twice : (n i j : ℕ) → max (max n (min (n + i) (2 ^ 64 - 1))) (min (max n (min (n + i) (2 ^ 64 - 1)) + j)
    (2 ^ 64 - 1)) ≡ max n (min (n + (i + j)) (2 ^ 64 - 1))
twice n i j = omega arith

pub asked_again : {F : Type 0} (p q r : Policy F) (i j : ℕ) → q ≡ asked_more i p → r ≡ asked_more j q →
    r ≡ asked_more (i + j) p
asked_again p q r i j e f = f ∙ ap (asked_more j) e ∙ ap (λ n. record p { asked = n }) (twice p.asked i j)

none_more : (n : ℕ) → n ≡ max n (min (n + 0) (2 ^ 64 - 1))
none_more n = omega arith

pub not_asked : {F : Type 0} (p : Policy F) → p ≡ asked_more 0 p
not_asked p = ap (λ n. record p { asked = n }) (none_more p.asked)

-- ---- the steps

-- What one step does, if it succeeds.
pub record Put (rows : PolicyRows) (stamp limit : ℕ) (c : Certificate) (es es' : Entries) (log log' : List TheWas)
    (t t' : Tally) : Type 0 where
  pub put : es' ≡ kept_with rows stamp es c
  pub sorted : AreSortedByFpr es'
  pub leads : StillLeadsBack log es log' es'
  pub tallied : IsTally limit es' t'.total
  pub fresh : t'.fresh + weigh_kept items_of es ≡ t.fresh + weigh_kept items_of es'
  pub clash : clash_at (found_for es c) c ≡ false
  pub judged : AreJudged rows es → AreJudged rows es'

-- A certificate that was merged, and the tally after it.
module _ (rows : PolicyRows) (terms : Terms) (c : Certificate) (es es' : Entries) (s : Step)
    (merged : IsMergedOn rows terms c es es' s) (sorted : AreSortedByFpr es) (t : Tally)
    (tallied : IsTally terms.limit es t.total) where
  pub can_count : CanMove s.before s.after t.total
  can_count = may_move rows terms.stamp terms.limit es es' c (staged_as merged.kept s) merged.staged sorted t.total
      tallied

  pub put_done : (log log' : List TheWas) (t' : Tally) → StillLeadsBack log es log' es' →
      clash_at (found_for es c) c ≡ false → Moves s.before s.after t.total t'.total →
      t'.fresh ≡ t.fresh + s.items + s.keys → Put rows terms.stamp terms.limit c es es' log log' t t'
  put_done log log' t' leads clash moves fresh =
      let staged = staged_as merged.kept s in
      let stamp = terms.stamp in
      let limit = terms.limit in
      record {
        put = put_with rows stamp limit es es' c staged merged.staged sorted merged.put;
        sorted =
            subst (λ (x : Entries). AreSortedByFpr x) (sym merged.put)
            (sorted_insert es (fpr_of c.key) merged.kept sorted);
        leads = leads;
        tallied = tally_moved rows stamp limit es es' c staged merged.staged sorted merged.put t.total t'.total tallied
            moves;
        fresh = fresh_moved rows stamp limit es es' c staged merged.staged sorted merged.put t.fresh t'.fresh
            (weigh_kept items_of es) t.fresh refl fresh;
        clash = clash;
        judged = judged_moved rows stamp limit es es' c staged merged.staged sorted merged.put;
      }

-- What the steps so far did, of those that the whole list asks for.
pub record Run (rows : PolicyRows) (stamp limit : ℕ) (all : List Certificate) (first : Entries) (log : List TheWas)
    (t : Tally) (rest : List Certificate) (es : Entries) (log' : List TheWas) (t' : Tally) : Type 0 where
  pub same : kept_all rows stamp es rest ≡ kept_all rows stamp first all
  pub sorted : AreSortedByFpr es
  pub leads : StillLeadsBack log first log' es
  pub tallied : IsTally limit es t'.total
  pub fresh : t'.fresh + weigh_kept items_of first ≡ t.fresh + weigh_kept items_of es
  pub clash : clash_in rows stamp es rest ≡ clash_in rows stamp first all
  pub judged : AreJudged rows first → AreJudged rows es

further : (u t r a b c : ℕ) → t + a ≡ r + b → u + b ≡ t + c → u + a ≡ r + c
further u t r a b c e f = omega arith

pub run_on : (rows : PolicyRows) (stamp limit : ℕ) (all : List Certificate) (first : Entries) (log : List TheWas)
    (t : Tally) (left rest : List Certificate) (c : Certificate) (es es' : Entries) (log' log2 : List TheWas)
    (t' t2 : Tally)
    → Run rows stamp limit all first log t left es log' t' → left ≡ c ∷ rest →
    Put rows stamp limit c es es' log' log2 t' t2 → Run rows stamp limit all first log t rest es' log2 t2
run_on rows stamp limit all first log t left rest c es es' log' log2 t' t2 run split p =
    let before : kept_all rows stamp es (c ∷ rest) ≡ kept_all rows stamp first all =
    ap (kept_all rows stamp es) (sym split) ∙ run.same in
    let clashes : clash_in rows stamp es (c ∷ rest) ≡ clash_in rows stamp first all =
    ap (clash_in rows stamp es) (sym split) ∙ run.clash in
    record {
      same = ap (λ (x : Entries). kept_all rows stamp x rest) p.put ∙ before;
      sorted = p.sorted;
      leads = λ start led. p.leads start (run.leads start led);
      tallied = p.tallied;
      fresh = further _ _ _ _ _ _ run.fresh p.fresh;
      clash = ap (λ (x : Entries). clash_in rows stamp x rest) p.put
          ∙ sym (ap (λ b. b || clash_in rows stamp (kept_with rows stamp es c) rest) p.clash) ∙ clashes;
      judged = λ h. p.judged (run.judged h);
    }

pub none_yet : (a : ℕ) → 0 + a ≡ a
none_yet a = omega arith

summed : (a k w j v : ℕ) → k + a ≡ w → j + w ≡ v → k + j + a ≡ v
summed a k w j v e f = omega arith

pub asked_on : (rows : PolicyRows) (stamp : ℕ) (a k j : ℕ) (es es' : Entries) (c : Certificate) →
    k + a ≡ weigh_kept sound_of es → j + weigh_kept sound_of es ≡ weigh_kept sound_of (kept_with rows stamp es c) →
    es' ≡ kept_with rows stamp es c → k + j + a ≡ weigh_kept sound_of es'
asked_on rows stamp a k j es es' c e f p = summed a k _ j _ e f ∙ ap (weigh_kept sound_of) (sym p)

-- what was asked before an error
at_most : (a k w j v u : ℕ) → k + a ≡ w → j + w ≤ v → v ≤ u → k + j + a ≤ u
at_most a k w j v u e f m = omega arith

-- if nothing was asked
none_before : (k w v : ℕ) → k ≡ 0 → w ≤ v → k + w ≤ v
none_before k w v e h = omega arith

pub none_asked : ((x y : Certificate) → sound_of x ≤ sound_of (unite x y)) → (rows : PolicyRows)
    (found : Option Kept) (c : Certificate) (k : ℕ) → k ≡ 0 →
    k + found_by sound_of found ≤ sound_of (joined rows found c)
none_asked grows rows found c k none = none_before k _ _ none (found_less sound_of grows rows 0 found c)

plus_none : (k n : ℕ) → k ≡ n → k + 0 ≡ n
plus_none k n e = omega arith

-- if nothing was found, all of it is new
pub asked_first : (rows : PolicyRows) (found : Option Kept) (c : Certificate) (k : ℕ) → found ≡ None →
    sound_of (judged rows c) ≡ sound_of c → k ≡ sound_of c →
    k + found_by sound_of found ≡ sound_of (joined rows found c)
asked_first rows found c k absent same asked =
    subst (λ (o : Option Kept). k + found_by sound_of o ≡ sound_of (joined rows o c)) (sym absent)
    (plus_none k (sound_of (judged rows c)) (asked ∙ sym same))

pub asked_up_to : ((x y : Certificate) → sound_of x ≤ sound_of (unite x y)) →
    (rows : PolicyRows) (stamp limit : ℕ) (all : List Certificate) (first : Entries) (log : List TheWas) (t : Tally)
    (left rest : List Certificate) (c : Certificate) (es : Entries) (log' : List TheWas) (t' : Tally) (k j : ℕ)
    → Run rows stamp limit all first log t left es log' t' → left ≡ c ∷ rest →
    k + weigh_kept sound_of first ≡ weigh_kept sound_of es
    → j + weigh_kept sound_of es ≤ weigh_kept sound_of (kept_with rows stamp es c)
    → k + j + weigh_kept sound_of first ≤ weigh_kept sound_of (kept_all rows stamp first all)
asked_up_to grows rows stamp limit all first log t left rest c es log' t' k j run split e f =
    let whole : kept_all rows stamp es (c ∷ rest) ≡ kept_all rows stamp first all =
    ap (kept_all rows stamp es) (sym split) ∙ run.same in
    at_most _ k _ j _ _ e f
    (subst (λ (x : Entries). weigh_kept sound_of (kept_with rows stamp es c) ≤ weigh_kept sound_of x) whole
    (more_in_all sound_of grows rows stamp (kept_with rows stamp es c) rest
    (sorted_insert es (fpr_of c.key) (kept_as rows stamp (found_for es c) c) run.sorted)))

-- a clash is reported if there is one
pub clash_told : (rows : PolicyRows) (stamp limit : ℕ) (all : List Certificate) (first : Entries) (log : List TheWas)
    (t : Tally) (left rest : List Certificate) (c : Certificate) (es : Entries) (log' : List TheWas) (t' : Tally)
    (fault : Fault)
    → Run rows stamp limit all first log t left es log' t' → left ≡ c ∷ rest →
    IsClashTold fault (clash_at (found_for es c) c) → IsClashTold fault (clash_in rows stamp first all)
clash_told rows stamp limit all first log t left rest c es log' t' Clash run split clashes =
    sym run.clash ∙ ap (clash_in rows stamp es) split
    ∙ ap (λ b. b || clash_in rows stamp (kept_with rows stamp es c) rest) clashes
clash_told rows stamp limit all first log t left rest c es log' t' Memory run split clashes = tt
