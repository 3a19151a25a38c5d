-- Laws of maps, as lists of entries: a fact of every value, how many entries there are, and what a changed map lacks.
-- For the proofs of this crate and of those above it.
use Rattle.std.proofs.Common.{◌≡◌, ℕ, ◌+◌, ◌≤◌, Bool, true, false, cond, List, [], ◌∷◌, length, Option}
use Rattle.std.proofs.Common.{Some, None, refl, subst, arith}
use Rattle.std.specs.declared.cmp.Ordering.{Ordering}
use Rattle.std.specs.declared.cmp.Ordering.TheVariants.{Less, Equal, Greater}
use Rattle.std.specs.Ordering.{match_ordering}
use Rattle.std.specs.List.{AllByRecursion, sum_by}
use Rattle.std.specs.Option.{unwrap_or, option_map}
use Rattle.std.specs.Cmp.{IsTotalOrder}
use Rattle.std.specs.BTreeMap.{insert_entry, is_at}
use Rattle.std.specs.Map.{lookup, remove_entry, set_value, values_of, keys_of}
use Rattle.std.proofs.lemmas.List.Sums.{sum_by-cons}
use Rattle.std.proofs.lemmas.Map.Entries.{sum_by-insert_entry}
use Rattle.std.proofs.Common.{ap, ◌∙◌}

-- ---- maps of which each value satisfies P

module _ {K X : Type 0} (P : X → Type 0) where
  abbrev pub Each : List (K × X) → Type 0
  Each es = AllByRecursion (λ (e : K × X). P e.1) es

  pub each_inserted : (cmp : K → K → Ordering) (es : List (K × X)) (k : K) (v : X) → Each es → P v
      → Each (insert_entry cmp es k v)
  each_inserted cmp [] k v all p = (p, tt)
  each_inserted cmp (e ∷ es) k v all p =
      elim (cmp k e.0) as (λ o. Each (match_ordering o ((k, v) ∷ e ∷ es) ((e.0, v) ∷ es)
      (e ∷ insert_entry cmp es k v))) [
        | Less ↦ (p, all)
        | Equal ↦ (p, all.1)
        | Greater ↦ (all.0, each_inserted cmp es k v all.1 p)
      ]

  pub each_set : (test : K → Bool) (es : List (K × X)) (v : X) → Each es → P v → Each (set_value test es v)
  each_set test [] v all p = tt
  each_set test (e ∷ es) v all p =
      elim (test e.0) as (λ b. Each (cond b ((e.0, v) ∷ es) (e ∷ set_value test es v))) [
        | true ↦ (p, all.1)
        | false ↦ (all.0, each_set test es v all.1 p)
      ]

  pub each_removed : (test : K → Bool) (es : List (K × X)) → Each es → Each (remove_entry test es)
  each_removed test [] all = tt
  each_removed test (e ∷ es) all =
      elim (test e.0) as (λ b. Each (cond b es (e ∷ remove_entry test es))) [
        | true ↦ all.1
        | false ↦ (all.0, each_removed test es all.1)
      ]

  pub each_found : (test : K → Bool) (es : List (K × X)) (v : X) → Each es → lookup test es ≡ Some v → P v
  each_found test [] v all e = absurd cc
  each_found test (x ∷ es) v all e = by (each_found test es v all.1) (test x.0) e
    where
      by : (lookup test es ≡ Some v → P v) → (b : Bool) → cond b (Some x.1) (lookup test es) ≡ Some v → P v
      by rest true f = let same : x.1 ≡ v = cc in subst P same all.0
      by rest false f = rest f

-- ---- how many entries

pub length_removed : {K X : Type 0} (test : K → Bool) (es : List (K × X)) → length (remove_entry test es) ≤ length es
length_removed test [] = omega arith
length_removed test (e ∷ es) =
    let rest = length_removed test es in
    elim (test e.0) as (λ b. length (cond b es (e ∷ remove_entry test es)) ≤ length (e ∷ es)) [
      | true ↦ omega arith
      | false ↦ omega (arith, rest)
    ]

pub length_inserted : {K X : Type 0} (cmp : K → K → Ordering) (es : List (K × X)) (k : K) (v : X)
    → length (insert_entry cmp es k v) ≤ length es + 1
length_inserted cmp [] k v = omega arith
length_inserted cmp (e ∷ es) k v =
    let rest = length_inserted cmp es k v in
    elim (cmp k e.0) as (λ o. length (match_ordering o ((k, v) ∷ e ∷ es) ((e.0, v) ∷ es)
    (e ∷ insert_entry cmp es k v)) ≤ length (e ∷ es) + 1) [
      | Less ↦ omega arith
      | Equal ↦ omega arith
      | Greater ↦ omega (arith, rest)
    ]

one : {X : Type 0} → X → ℕ
one x = 1

sum_ones : {K X : Type 0} (es : List (K × X)) → sum_by one (values_of es) ≡ length es
unfolding one
sum_ones [] = refl
sum_ones (e ∷ es) =
    let first : sum_by one (values_of (e ∷ es)) ≡ 1 + sum_by one (values_of es) = sum_by-cons one e.1 (values_of es) in
    let rest = sum_ones es in
    omega (arith, first, rest)

one_there : {X : Type 0} (o : Option X) (v : X) → o ≡ Some v → unwrap_or (option_map one o) 0 ≡ 1
unfolding one
one_there None v e = absurd cc
one_there (Some x) v e = refl

-- a value replaces another one
pub length_replaced : {K X : Type 0} (cmp : K → K → Ordering) → IsTotalOrder cmp → (es : List (K × X)) (k : K) (v w : X)
    → Rattle.std.specs.List.Sorted.IsStrictlySortedBy cmp (keys_of es) → lookup (is_at (cmp k)) es ≡ Some w
    → length (insert_entry cmp es k v) ≡ length es
unfolding one
length_replaced cmp total es k v w sorted e =
    let sums = sum_by-insert_entry one total es k v sorted in
    let there = one_there (lookup (is_at (cmp k)) es) w e in
    omega (arith, sums, there, sum_ones es, sum_ones (insert_entry cmp es k v))

-- ---- what is missing in a map that grew was missing before

pub none_behind : {X : Type 0} (q : Bool) (v w : X) (old new : Option X) → (new ≡ None → old ≡ None) →
    cond q (Some v) new ≡ None → cond q (Some w) old ≡ None
none_behind true v w old new rest none = absurd cc
none_behind false v w old new rest none = rest none

pub none_left : {X : Type 0} (q : Bool) (v : X) (old : Option X) → cond q (Some v) old ≡ None → old ≡ None
none_left true v old none = absurd cc
none_left false v old none = none

pub none_set : {K X : Type 0} (query test : K → Bool) (es : List (K × X)) (v : X) →
    lookup query (set_value test es v) ≡ None → lookup query es ≡ None
none_set query test [] v none = refl
none_set query test (e ∷ es) v none = by (none_set query test es v) (test e.0) none
  where
    by : (lookup query (set_value test es v) ≡ None → lookup query es ≡ None) → (b : Bool)
        → lookup query (cond b ((e.0, v) ∷ es) (e ∷ set_value test es v)) ≡ None →
        cond (query e.0) (Some e.1) (lookup query es) ≡ None
    by rest true = none_behind (query e.0) v e.1 (lookup query es) (lookup query es) (λ none. none)
    by rest false = none_behind (query e.0) e.1 e.1 (lookup query es) (lookup query (set_value test es v)) rest

pub none_put : {K X : Type 0} (query : K → Bool) (cmp : K → K → Ordering) (es : List (K × X)) (k : K) (v : X)
    → lookup query (insert_entry cmp es k v) ≡ None → lookup query es ≡ None
none_put query cmp [] k v none = refl
none_put query cmp (e ∷ es) k v none = by (none_put query cmp es k v) (cmp k e.0) none
  where
    by : (lookup query (insert_entry cmp es k v) ≡ None → lookup query es ≡ None) → (o : Ordering)
        → lookup query (match_ordering o ((k, v) ∷ e ∷ es) ((e.0, v) ∷ es) (e ∷ insert_entry cmp es k v)) ≡ None
        → cond (query e.0) (Some e.1) (lookup query es) ≡ None
    by rest Less = none_left (query k) v (cond (query e.0) (Some e.1) (lookup query es))
    by rest Equal = none_behind (query e.0) v e.1 (lookup query es) (lookup query es) (λ none. none)
    by rest Greater = none_behind (query e.0) e.1 e.1 (lookup query es) (lookup query (insert_entry cmp es k v)) rest

pub still_none_set : {K X : Type 0} (query test : K → Bool) (es : List (K × X)) (v : X) → lookup query es ≡ None →
    lookup query (set_value test es v) ≡ None
still_none_set query test [] v none = refl
still_none_set query test (e ∷ es) v none = by (still_none_set query test es v) (test e.0) none
  where
    by : (lookup query es ≡ None → lookup query (set_value test es v) ≡ None) → (b : Bool)
        → cond (query e.0) (Some e.1) (lookup query es) ≡ None →
        lookup query (cond b ((e.0, v) ∷ es) (e ∷ set_value test es v)) ≡ None
    by rest true = none_behind (query e.0) e.1 v (lookup query es) (lookup query es) (λ none. none)
    by rest false = none_behind (query e.0) e.1 e.1 (lookup query (set_value test es v)) (lookup query es) rest

pub still_none_put : {K X : Type 0} (query : K → Bool) (cmp : K → K → Ordering) (es : List (K × X)) (k : K) (v : X) →
    query k ≡ false
    → lookup query es ≡ None → lookup query (insert_entry cmp es k v) ≡ None
still_none_put query cmp [] k v apart none = ap (λ (b : Bool). cond b (Some v) None) apart
still_none_put query cmp (e ∷ es) k v apart none = by (still_none_put query cmp es k v apart) (cmp k e.0) none
  where
    by : (lookup query es ≡ None → lookup query (insert_entry cmp es k v) ≡ None) → (o : Ordering)
        → cond (query e.0) (Some e.1) (lookup query es) ≡ None
        → lookup query (match_ordering o ((k, v) ∷ e ∷ es) ((e.0, v) ∷ es) (e ∷ insert_entry cmp es k v)) ≡ None
    by rest Less none = ap (λ (b : Bool). cond b (Some v) (cond (query e.0) (Some e.1) (lookup query es))) apart ∙ none
    by rest Equal none = none_behind (query e.0) e.1 v (lookup query es) (lookup query es) (λ none. none) none
    by rest Greater none = none_behind (query e.0) e.1 e.1 (lookup query (insert_entry cmp es k v)) (lookup query es)
        rest none
