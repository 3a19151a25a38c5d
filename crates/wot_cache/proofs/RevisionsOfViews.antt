-- Revisions: undoing the first revision, that exactly the open views have a revision, and when a change adds one.
use Rattle.std.proofs.Common.{◌≡◌, ◌≢◌, inr, ℕ, ◌+◌, ◌-◌, ◌==◌, Bool, true, false, cond, List, [], ◌∷◌, Option, Some}
use Rattle.std.proofs.Common.{None, refl, sym, ap, subst, ◌∙◌, arith}
use Rattle.std.specs.Prelude.{◌||◌, IfSome, is_some, length, nat_le, nat_lt, if◌then◌else◌}
use Rattle.std.specs.declared.cmp.Ordering.{Ordering}
use Rattle.std.specs.declared.cmp.Ordering.TheVariants.{Less, Equal, Greater}
use Rattle.std.specs.Cmp.{IsTotalOrder}
use Rattle.std.specs.BTreeMap.{insert_entry, is_at}
use Rattle.std.specs.List.Sorted.{IsStrictlySortedBy}
use Rattle.std.specs.Map.{keys_of, lookup, remove_entry, set_value}
use Rattle.std.specs.Option.{MatchOption, option_eq, option_map, unwrap_or}
use Rattle.std.specs.Ordering.{is_eq, ordering_reverse}
use Rattle.std.proofs.lemmas.Bool.{eqb-true}
use Rattle.std.proofs.lemmas.Bool.Decides.{Decides-eqb, not_from_Decides}
use Rattle.std.proofs.lemmas.Cmp.{nat_list_cmp_total, tied_itself}
use Rattle.std.proofs.lemmas.Map.{lookup-none}
use Rattle.std.proofs.lemmas.Map.Entries.{none_below_head}
use Rattle.std.proofs.lemmas.Map.Steps.{set_value_same}
use Rattle.std.proofs.lemmas.Option.{same_Some}
use Rattle.wot_types.specs.declared.fpr.Fpr.{Fpr}
use Rattle.wot_types.specs.declared.limits.Limits.{Limits}
use Rattle.wot_types.specs.declared.limits.Limit.TheVariants.{Roots}
use Rattle.wot_types.specs.Fpr.{fpr_cmp}
use Rattle.wot_types.specs.ViewName.{view_name_cmp}
use Rattle.wot_edge.specs.Roots.{IsRoots, root_amount}
use Rattle.wot_cache.specs.declared.view.View.{View}
use Rattle.wot_cache.specs.declared.view.ViewFault.TheVariants.{Absent, Full}
use Rattle.wot_cache.specs.Marks.{IsForgotten}
use Rattle.wot_cache.specs.Revisions.{AreRevisionsBy, AreRevisionsOf, Revisions, revision_at, turned, with_revision, without_revision}
use Rattle.wot_cache.specs.Views.{MovesTime, SetsAmount, Views, amount_fault, is_name, root_fault, rooted, timed}
use Rattle.wot_cache.specs.Views.{view_at, with_amount, with_root, with_time}
use Rattle.wot_types.specs.FprLaws.{fpr_total}

-- ---- entries

either_true : (b : Bool) → (b || true) ≡ true
either_true true = refl
either_true false = refl

module _ {K X : Type 0} (R : K → K → Ordering) (total : IsTotalOrder R) where
  -- removing a key right after it was inserted restores the map
  pub removed_inserted : (es : List (K × X)) (k : K) (v : X) → lookup (is_at (R k)) es ≡ None →
      remove_entry (is_at (R k)) (insert_entry R es k v) ≡ es
  removed_inserted [] k v none = rw (tied_itself total k) refl
  removed_inserted (e ∷ es) k v none = by (removed_inserted es k v) (R k e.0) refl none
    where
      by : (lookup (is_at (R k)) es ≡ None → remove_entry (is_at (R k)) (insert_entry R es k v) ≡ es) → (o : Ordering) →
          R k e.0 ≡ o
          → cond (is_eq o) (Some e.1) (lookup (is_at (R k)) es) ≡ None →
          remove_entry (is_at (R k)) (insert_entry R (e ∷ es) k v) ≡ e ∷ es
      by rest Less h n = rw h (rw (tied_itself total k) refl)
      by rest Equal h n = absurd cc
      by rest Greater h n = rw h (rw h (ap (λ (xs : List (K × X)). e ∷ xs) (rest n)))

  -- an inserted key is found
  pub found_inserted : (es : List (K × X)) (k : K) (v : X) → lookup (is_at (R k)) (insert_entry R es k v) ≡ Some v
  found_inserted [] k v = rw (tied_itself total k) refl
  found_inserted (e ∷ es) k v = by (found_inserted es k v) (R k e.0) refl
    where
      by : lookup (is_at (R k)) (insert_entry R es k v) ≡ Some v → (o : Ordering) → R k e.0 ≡ o →
          lookup (is_at (R k)) (insert_entry R (e ∷ es) k v) ≡ Some v
      by rest Less h = rw h (rw (tied_itself total k) refl)
      by rest Equal h = rw h (rw h refl)
      by rest Greater h = rw h (rw h rest)

  -- all other keys are still found
  pub there_inserted : (q : K) (es : List (K × X)) (k : K) (v : X)
      → is_some (lookup (is_at (R q)) (insert_entry R es k v)) ≡ (is_at (R q) k || is_some (lookup (is_at (R q)) es))
  there_inserted q [] k v = one (is_at (R q) k)
    where
      one : (b : Bool) → is_some (cond b (Some v) None) ≡ (b || false)
      one true = refl
      one false = refl
  there_inserted q (e ∷ es) k v = by (there_inserted q es k v) (R k e.0) refl
    where
      first : (b : Bool) (o : Option X) → is_some (cond b (Some v) o) ≡ (b || is_some o)
      first true o = refl
      first false o = refl

      same : (b : Bool) (o : Option X) → is_some (cond b (Some v) o) ≡ (b || is_some (cond b (Some e.1) o))
      same true o = refl
      same false o = refl

      behind : (b c : Bool) (o p : Option X) → is_some o ≡ (c || is_some p) →
          is_some (cond b (Some e.1) o) ≡ (c || is_some (cond b (Some e.1) p))
      behind true c o p h = sym (either_true c)
      behind false c o p h = h

      by : is_some (lookup (is_at (R q)) (insert_entry R es k v)) ≡ (is_at (R q) k || is_some (lookup (is_at (R q)) es))
          → (o : Ordering) → R k e.0 ≡ o
          → is_some (lookup (is_at (R q)) (insert_entry R (e ∷ es) k v)) ≡ (is_at (R q) k || is_some
          (lookup (is_at (R q)) (e ∷ es)))
      by rest Less h = rw h (first (is_at (R q) k) (lookup (is_at (R q)) (e ∷ es)))
      by rest Equal h =
          let equal : R q e.0 ≡ R q k = total.antisymm q e.0 ∙ ap ordering_reverse (sym (total.congr k e.0 q h))
          ∙ sym (total.antisymm q k) in
          rw h (rw (← equal) (same (is_at (R q) e.0) (lookup (is_at (R q)) es)))
      by rest Greater h = rw h (behind (is_at (R q) e.0) (is_at (R q) k) (lookup (is_at (R q)) (insert_entry R es k v))
          (lookup (is_at (R q)) es) rest)

  -- inserting the entry that is already there changes nothing
  pub inserted_same : (es : List (K × X)) (k : K) (v : X) → IsStrictlySortedBy R (keys_of es) →
      lookup (is_at (R k)) es ≡ Some v → insert_entry R es k v ≡ es
  unfolding IsStrictlySortedBy
  inserted_same [] k v sorted found = absurd cc
  inserted_same (e ∷ es) k v sorted found =
      by (inserted_same es k v sorted.1) (λ less. lookup-none (is_at (R k)) (e ∷ es)
      (none_below_head total k e es sorted less)) (R k e.0) refl found
    where
      by : (lookup (is_at (R k)) es ≡ Some v → insert_entry R es k v ≡ es) →
          (R k e.0 ≡ Less → lookup (is_at (R k)) (e ∷ es) ≡ None) → (o : Ordering) → R k e.0 ≡ o
          → cond (is_eq o) (Some e.1) (lookup (is_at (R k)) es) ≡ Some v → insert_entry R (e ∷ es) k v ≡ e ∷ es
      by rest below Less h f =
          let none : cond (is_eq Less) (Some e.1) (lookup (is_at (R k)) es) ≡ None =
          subst (λ (o : Ordering). cond (is_eq o) (Some e.1) (lookup (is_at (R k)) es) ≡ None) h (below h) in
          let clash : None ≡ Some v = sym none ∙ f in
          absurd (cc clash)
      by rest below Equal h f =
          let same : e.1 ≡ v = same_Some e.1 v f in
          rw h (λ i. (e.0, sym same i) ∷ es)
      by rest below Greater h f = rw h (ap (λ (xs : List (K × X)). e ∷ xs) (rest f))

  -- a removed key is gone
  pub removed_gone : (es : List (K × X)) (k : K) → IsStrictlySortedBy R (keys_of es) →
      lookup (is_at (R k)) (remove_entry (is_at (R k)) es) ≡ None
  unfolding IsStrictlySortedBy
  removed_gone [] k sorted = refl
  removed_gone (e ∷ es) k sorted = by (removed_gone es k sorted.1) (behind es sorted) (R k e.0) refl
    where
      behind : (rest : List (K × X)) → IsStrictlySortedBy R (e.0 ∷ keys_of rest) → R k e.0 ≡ Equal →
          lookup (is_at (R k)) rest ≡ None
      behind [] order same = refl
      behind (f ∷ fs) order same =
          lookup-none (is_at (R k)) (f ∷ fs) (none_below_head total k f fs order.1 (total.congr k e.0 f.0 same
          ∙ order.0.0))

      by : lookup (is_at (R k)) (remove_entry (is_at (R k)) es) ≡ None →
          (R k e.0 ≡ Equal → lookup (is_at (R k)) es ≡ None) → (o : Ordering) → R k e.0 ≡ o
          → lookup (is_at (R k)) (remove_entry (is_at (R k)) (e ∷ es)) ≡ None
      by rest gone Less h = rw h (rw h rest)
      by rest gone Equal h = rw h (gone h)
      by rest gone Greater h = rw h (rw h rest)

module _ {K X : Type 0} where
  pub found_set : (test : K → Bool) (es : List (K × X)) (w : X) → is_some (lookup test es) ≡ true →
      lookup test (set_value test es w) ≡ Some w
  found_set test [] w h = absurd cc
  found_set test (e ∷ es) w h = by (found_set test es w) (test e.0) refl h
    where
      by : (is_some (lookup test es) ≡ true → lookup test (set_value test es w) ≡ Some w) → (b : Bool) → test e.0 ≡ b
          → is_some (cond b (Some e.1) (lookup test es)) ≡ true → lookup test (set_value test (e ∷ es) w) ≡ Some w
      by rest true t h = rw t (rw t refl)
      by rest false t h = rw t (rw t (rest h))

  pub there_set : (query test : K → Bool) (es : List (K × X)) (w : X) →
      is_some (lookup query (set_value test es w)) ≡ is_some (lookup query es)
  there_set query test [] w = refl
  there_set query test (e ∷ es) w = by (there_set query test es w) (test e.0)
    where
      other : (q : Bool) (o : Option X) → is_some (cond q (Some w) o) ≡ is_some (cond q (Some e.1) o)
      other true o = refl
      other false o = refl

      behind : (q : Bool) (o p : Option X) → is_some o ≡ is_some p → is_some (cond q (Some e.1) o) ≡ is_some
          (cond q (Some e.1) p)
      behind true o p h = refl
      behind false o p h = h

      by : is_some (lookup query (set_value test es w)) ≡ is_some (lookup query es) → (b : Bool)
          → is_some (lookup query (cond b ((e.0, w) ∷ es) (e ∷ set_value test es w))) ≡ is_some (lookup query (e ∷ es))
      by rest true = other (query e.0) (lookup query es)
      by rest false = behind (query e.0) (lookup query (set_value test es w)) (lookup query es) rest

-- ---- revisions

pub none_is : {X : Type 0} (o : Option X) → is_some o ≡ false → o ≡ None
none_is None h = refl
none_is (Some x) h = absurd cc

pub taken_back : (name : List ℕ) (before : Revisions) (count : ℕ) (each rest : List (List ℕ × ℕ)) →
    revision_at before name ≡ None
    → record { count = count; each = each } ≡ turned name before → rest ≡ remove_entry (is_name name) each →
    record { count = count - 1; each = rest } ≡ before
taken_back name before count each rest none was left =
    let one : count ≡ before.count + 1 = ap (λ (t : Revisions). t.count) was in
    let less : count - 1 ≡ before.count = omega (arith, one) in
    let put : each ≡ insert_entry view_name_cmp before.each name (before.count + 1) =
    ap (λ (t : Revisions). t.each) was ∙ ap (with_revision before.each name (before.count + 1)) none in
    let same : rest ≡ before.each =
    left ∙ ap (remove_entry (is_name name)) put ∙ removed_inserted view_name_cmp nat_list_cmp_total before.each name
    (before.count + 1) none in
    λ i. record { count = less i; each = same i }

-- ---- exactly the open views have a revision

pub opened_turns : (views : Views) (revisions : Revisions) (name : List ℕ) (view : View) → view_at views name ≡ None →
    AreRevisionsOf views revisions
    → AreRevisionsOf (insert_entry view_name_cmp views name view) (turned name revisions)
opened_turns views revisions name view none all q =
    let first : revision_at revisions name ≡ None = none_is (revision_at revisions name) (all name ∙ ap is_some none) in
    ap (λ (o : Option ℕ). is_some (lookup (is_name q) (with_revision revisions.each name (revisions.count + 1) o))) first
    ∙ there_inserted view_name_cmp nat_list_cmp_total q revisions.each name (revisions.count + 1)
    ∙ ap (λ b. is_name q name || b) (all q)
    ∙ sym (there_inserted view_name_cmp nat_list_cmp_total q views name view)

pub changed_turns : (views : Views) (revisions : Revisions) (name : List ℕ) (view : View) →
    is_some (view_at views name) ≡ true → AreRevisionsOf views revisions
    → AreRevisionsOf (set_value (is_name name) views view) (turned name revisions)
changed_turns views revisions name view there all q = by (revision_at revisions name) refl
  where
    by : (o : Option ℕ) → revision_at revisions name ≡ o → is_some (revision_at (turned name revisions) q) ≡ is_some
        (view_at (set_value (is_name name) views view) q)
    by None e = let never : false ≡ true = sym (ap is_some e) ∙ all name ∙ there in absurd cc
    by (Some revision) e =
        ap (λ (o : Option ℕ). is_some (lookup (is_name q) (with_revision revisions.each name (revisions.count + 1) o))) e
        ∙ there_set (is_name q) (is_name name) revisions.each (revisions.count + 1)
        ∙ all q
        ∙ sym (there_set (is_name q) (is_name name) views view)

pub closed_turns : (views left : Views) (revisions rest : Revisions) (name : List ℕ) → IsForgotten name views left →
    IsForgotten name revisions.each rest.each
    → AreRevisionsOf views revisions → AreRevisionsOf left rest
closed_turns views left revisions rest name closed forgotten all q =
    ap is_some (forgotten q) ∙ both (is_name name q) ∙ sym (ap is_some (closed q))
  where
    both : (b : Bool) → is_some (cond b None (revision_at revisions q)) ≡ is_some (cond b None (view_at views q))
    both true = refl
    both false = all q

-- ---- whether a change adds a revision

pub equal_there : (o : Option ℕ) (t : ℕ) → option_eq ◌==◌ o (Some t) ≡ true → o ≡ Some t
equal_there None t h = absurd cc
equal_there (Some x) t h = ap (λ (n : ℕ). Some n) (eqb-true x t h)

pub other_there : (o : Option ℕ) (t : ℕ) → option_eq ◌==◌ o (Some t) ≡ false → o ≢ Some t
other_there None t h e = cc e
other_there (Some x) t h e = not_from_Decides (x == t) (Decides-eqb x t) h (same_Some x t e)

-- setting an open view's time to its current time changes nothing
pub time_kept : (views : Views) (name : List ℕ) (t : ℕ) → option_map (λ (v : View). v.time) (view_at views name) ≡ Some
    t → with_time views name t ≡ views
time_kept views name t h = by (view_at views name) refl h
  where
    by : (o : Option View) → view_at views name ≡ o → option_map (λ (v : View). v.time) o ≡ Some t →
        timed views name t o ≡ views
    by None e h = absurd cc
    by (Some v) e h =
        let same : v.time ≡ t = cc in
        set_value_same (is_name name) views (record v { time = t })
        (e ∙ λ i. Some (record { time = same i; roots = v.roots }))

-- setting a root's amount to its current amount changes nothing
amount_kept : (l : Limits) (roots : List (Fpr × ℕ)) (fpr : Fpr) (amount : ℕ) → IsRoots roots →
    amount_fault l roots fpr amount ≡ None
    → root_amount roots fpr ≡ amount → with_amount roots fpr amount ≡ roots
amount_kept l roots fpr amount are none same = by (amount == 0) refl (subst Fault same none)
  where
    Fault : ℕ → Type 0
    Fault n = (if nat_lt 0 n then None else if amount == 0 then Some Absent else if nat_le l.roots (length roots)
        then Some (Full Roots) else None) ≡ None

    there : (n : ℕ) → (n == 0) ≡ false → (o : Option ℕ) → unwrap_or o 0 ≡ n → o ≡ Some n
    there n some None e = let never : true ≡ false = ap (λ (m : ℕ). m == 0) e ∙ some in absurd cc
    there n some (Some m) e = ap (λ (x : ℕ). Some x) e

    by : (b : Bool) → (amount == 0) ≡ b → Fault amount → with_amount roots fpr amount ≡ roots
    by true z f =
        let zero : amount ≡ 0 = eqb-true amount 0 z in
        let at : (if nat_lt 0 0 then None else if 0 == 0 then Some Absent else if nat_le l.roots (length roots)
        then Some (Full Roots) else None) ≡ None =
        subst (λ (n : ℕ). (if nat_lt 0 n then None else if n == 0 then Some Absent else if nat_le l.roots (length roots)
        then Some (Full Roots) else None) ≡ None) zero f in
        absurd (cc at)
    by false z f = rw z (inserted_same fpr_cmp fpr_total roots fpr amount are.order
        (there amount z (lookup (is_at (fpr_cmp fpr)) roots) same))

pub roots_kept : (l : Limits) (views : Views) (name : List ℕ) (fpr : Fpr) (amount : ℕ) (v : View) →
    view_at views name ≡ Some v → IsRoots v.roots
    → root_fault l (view_at views name) fpr amount ≡ None → root_amount v.roots fpr ≡ amount →
    with_root views name fpr amount ≡ views
roots_kept l views name fpr amount v found are none same =
    let allowed : amount_fault l v.roots fpr amount ≡ None = ap (λ (o : Option View). root_fault l o fpr amount)
    (sym found) ∙ none in
    let kept = amount_kept l v.roots fpr amount are allowed same in
    ap (rooted views name fpr amount) found
    ∙ set_value_same (is_name name) views (record v { roots = with_amount v.roots fpr amount })
    (found ∙ λ i. Some (record { time = v.time; roots = sym kept i }))

-- closing a view changes it
pub closing : (views left : Views) (revisions : Revisions) (name : List ℕ) → is_some (view_at views name) ≡ true →
    IsForgotten name views left
    → AreRevisionsBy (without_revision name revisions) name views revisions left (without_revision name revisions)
closing views left revisions name there gone =
    let none : view_at left name ≡ None =
    gone name ∙ ap (λ (o : Ordering). cond (is_eq o) None (view_at views name)) (tied_itself nat_list_cmp_total name) in
    inr ((λ same. let never : false ≡ true = ap is_some (sym none ∙ same) ∙ there in cc), refl)

-- opening a view changes it
pub opening : (views : Views) (revisions : Revisions) (name : List ℕ) (view : View) → view_at views name ≡ None
    → AreRevisionsBy (turned name revisions) name views revisions (insert_entry view_name_cmp views name view) (turned name revisions)
opening views revisions name view none =
    inr (
      (λ same. let never : Some view ≡ None = sym (found_inserted view_name_cmp nat_list_cmp_total views name view)
          ∙ same ∙ none in cc),
      refl,
    )

-- moving its time changes it, unless the time is the same
pub moving : (views new : Views) (revisions : Revisions) (name : List ℕ) (t : ℕ) →
    option_map (λ (v : View). v.time) (view_at views name) ≢ Some t
    → MovesTime true name t views new → AreRevisionsBy (turned name revisions) name views revisions new (turned name revisions)
moving views new revisions name t other moves = by (view_at views name) refl moves
  where
    by : (o : Option View) → view_at views name ≡ o
        → MatchOption o ((true ≡ false) × (new ≡ views))
        (λ (v : View). (true ≡ true) × (new ≡ set_value (is_name name) views (record v { time = t })))
        → AreRevisionsBy (turned name revisions) name views revisions new (turned name revisions)
    by None e m = absurd cc
    by (Some v) e m =
        let there : is_some (view_at views name) ≡ true = ap is_some e in
        let found : view_at new name ≡ Some (record v { time = t }) =
        ap (λ (vs : Views). view_at vs name) m.1 ∙ found_set (is_name name) views (record v { time = t }) there in
        inr ((λ same. other (sym (ap (option_map (λ (v : View). v.time)) (sym found ∙ same)))), refl)

-- the amount after it was set
amount_set : (roots : List (Fpr × ℕ)) (fpr : Fpr) (amount : ℕ) → IsRoots roots →
    root_amount (with_amount roots fpr amount) fpr ≡ amount
amount_set roots fpr amount are = by (amount == 0) refl
  where
    by : (b : Bool) → (amount == 0) ≡ b → root_amount (with_amount roots fpr amount) fpr ≡ amount
    by true z = rw z (ap (λ (o : Option ℕ). unwrap_or o 0) (removed_gone fpr_cmp fpr_total roots fpr are.order)
        ∙ sym (eqb-true amount 0 z))
    by false z = rw z (ap (λ (o : Option ℕ). unwrap_or o 0) (found_inserted fpr_cmp fpr_total roots fpr amount))

-- setting a root changes it, unless the amount is the same
pub rooting : (views new : Views) (revisions : Revisions) (name : List ℕ) (fpr : Fpr) (amount : ℕ) →
    IfSome (view_at views name) (λ (v : View). IsRoots v.roots)
    → IfSome (view_at views name) (λ (v : View). root_amount v.roots fpr ≢ amount) →
    SetsAmount name fpr amount views new
    → AreRevisionsBy (turned name revisions) name views revisions new (turned name revisions)
rooting views new revisions name fpr amount are other sets = by (view_at views name) refl are other sets
  where
    by : (o : Option View) → view_at views name ≡ o → IfSome o (λ (v : View). IsRoots v.roots) →
        IfSome o (λ (v : View). root_amount v.roots fpr ≢ amount)
        → MatchOption o ⊥ (λ (v : View). new ≡ set_value (is_name name) views
        (record v { roots = with_amount v.roots fpr amount }))
        → AreRevisionsBy (turned name revisions) name views revisions new (turned name revisions)
    by None e a h m = absurd m
    by (Some v) e a h m =
        let there : is_some (view_at views name) ≡ true = ap is_some e in
        let found : view_at new name ≡ Some (record v { roots = with_amount v.roots fpr amount }) =
        ap (λ (vs : Views). view_at vs name) m ∙ found_set (is_name name) views
        (record v { roots = with_amount v.roots fpr amount }) there in
        let Amount : Option View → ℕ = λ o. unwrap_or (option_map (λ (v : View). root_amount v.roots fpr) o) 0 in
        inr ((λ same. h (sym (ap Amount (sym found ∙ same ∙ e)) ∙ amount_set v.roots fpr amount a)), refl)

-- ---- exactly the open views have a revision after a view changed

pub moved_turns : (views new : Views) (revisions : Revisions) (name : List ℕ) (t : ℕ) → MovesTime true name t views new →
    AreRevisionsOf views revisions → AreRevisionsOf new (turned name revisions)
moved_turns views new revisions name t moves all = by (view_at views name) refl moves
  where
    by : (o : Option View) → view_at views name ≡ o
        → MatchOption o ((true ≡ false) × (new ≡ views))
        (λ (v : View). (true ≡ true) × (new ≡ set_value (is_name name) views (record v { time = t })))
        → AreRevisionsOf new (turned name revisions)
    by None e m = absurd cc
    by (Some v) e m =
        subst (λ (vs : Views). AreRevisionsOf vs (turned name revisions)) (sym m.1)
        (changed_turns views revisions name (record v { time = t }) (ap is_some e) all)

pub rooted_turns : (views new : Views) (revisions : Revisions) (name : List ℕ) (fpr : Fpr) (amount : ℕ) →
    SetsAmount name fpr amount views new → AreRevisionsOf views revisions
    → AreRevisionsOf new (turned name revisions)
rooted_turns views new revisions name fpr amount sets all = by (view_at views name) refl sets
  where
    by : (o : Option View) → view_at views name ≡ o
        → MatchOption o ⊥ (λ (v : View). new ≡ set_value (is_name name) views
        (record v { roots = with_amount v.roots fpr amount }))
        → AreRevisionsOf new (turned name revisions)
    by None e m = absurd m
    by (Some v) e m =
        subst (λ (vs : Views). AreRevisionsOf vs (turned name revisions)) (sym m)
        (changed_turns views revisions name (record v { roots = with_amount v.roots fpr amount }) (ap is_some e) all)
