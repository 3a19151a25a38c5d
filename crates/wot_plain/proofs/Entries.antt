-- Maps as sorted lists of entries: what an insertion, an update or a removal leaves unchanged.
use Rattle.std.proofs.Common.{◌≡◌, Bool, true, false, cond, List, [], ◌∷◌, ◌++◌, Some, None, refl, sym, ap, ◌∙◌, subst}
use Rattle.std.specs.Prelude.{is_some}
use Rattle.std.specs.declared.cmp.Ordering.{Ordering}
use Rattle.std.specs.declared.cmp.Ordering.TheVariants.{Less, Equal, Greater}
use Rattle.std.specs.BTreeMap.{insert_entry, is_at}
use Rattle.std.specs.Cmp.{IsTotalOrder}
use Rattle.std.specs.List.{AllByRecursion}
use Rattle.std.specs.Map.{lookup, remove_entry, set_value}
use Rattle.std.specs.Ordering.{is_eq, match_ordering, ordering_reverse}
use Rattle.std.proofs.lemmas.Cmp.{tied_itself}
use Rattle.std.proofs.lemmas.Option.{same_Some}
use Rattle.wot_component.specs.Ranked.{IsBelow, IsRising}

-- ---- sorted lists

module _ {A : Type 0} (R : A → A → Ordering) (total : IsTotalOrder R) where
  back : (o : Ordering) → Greater ≡ ordering_reverse o → o ≡ Less
  back Less e = refl
  back Equal e = absurd (cc e)
  back Greater e = absurd (cc e)

  pub turn_round : (x y : A) → R x y ≡ Greater → R y x ≡ Less
  turn_round x y e = back (R y x) (sym e ∙ total.antisymm x y)

  pub above_is : (x y : A) → R x y ≡ Less → R y x ≡ Greater
  above_is x y e = total.antisymm y x ∙ ap ordering_reverse e

  pub below_all : (x y : A) (ys : List A) → R x y ≡ Less → IsBelow R y ys → IsBelow R x ys
  below_all x y [] e all = tt
  below_all x y (z ∷ zs) e all = (total.trans x y z e all.0, below_all x y zs e all.1)

module _ {A : Type 0} (R : A → A → Ordering) where
  pub below_append : (x : A) (xs ys : List A) → IsBelow R x xs → IsBelow R x ys → IsBelow R x (xs ++ ys)
  below_append x [] ys p q = q
  below_append x (y ∷ xs) ys p q = (p.0, below_append x xs ys p.1 q)

  pub rising_append : (xs ys : List A) → IsRising R xs → IsRising R ys → AllByRecursion (λ x. IsBelow R x ys) xs
      → IsRising R (xs ++ ys)
  rising_append [] ys p q all = q
  rising_append (x ∷ xs) ys p q all = (below_append x xs ys p.0 all.0, rising_append xs ys p.1 q all.1)

-- ---- entries

-- entries in the order of their keys
abbrev pub by_key : {K X : Type 0} → (K → K → Ordering) → K × X → K × X → Ordering
by_key R a b = R a.0 b.0

abbrev pub AreInOrder : {K X : Type 0} → (K → K → Ordering) → List (K × X) → Type 0
AreInOrder R es = IsRising (by_key R) es

-- no key equals both
abbrev pub AreApart : {K : Type 0} → (K → K → Ordering) → K → K → Type 0
AreApart {K} R k q = (x : K) → is_at (R k) x ≡ true → is_at (R q) x ≡ false

equal : (o : Ordering) → is_eq o ≡ true → o ≡ Equal
equal Less e = absurd (cc e)
equal Equal e = refl
equal Greater e = absurd (cc e)

pub apart : {K : Type 0} (R : K → K → Ordering) → IsTotalOrder R → (k q : K) → is_at (R k) q ≡ false → AreApart R k q
apart R total k q other x here = by (R q x) refl
  where
    by : (o : Ordering) → R q x ≡ o → is_eq o ≡ false
    by Less h = refl
    by Equal h =
        let at : R k q ≡ Equal = total.congr k x q (equal (R k x) here) ∙ sym (total.congr q x q h)
        ∙ tied_itself total q in
        let never : true ≡ false = sym (ap is_eq at) ∙ other in
        absurd (cc never)
    by Greater h = refl

module _ {K X : Type 0} (R : K → K → Ordering) (total : IsTotalOrder R) where
  by_key_total : IsTotalOrder {K = K × X} (by_key R)
  by_key_total = record {
    antisymm = λ x y. total.antisymm x.0 y.0;
    trans = λ x y z. total.trans x.0 y.0 z.0;
    congr = λ x y z. total.congr x.0 y.0 z.0;
  }

  -- ---- insertion

  below_put : (k : K) (v : X) (x : K × X) (es : List (K × X)) → R x.0 k ≡ Less → IsBelow (by_key R) x es
      → IsBelow (by_key R) x (insert_entry R es k v)
  below_put k v x [] e all = (e, tt)
  below_put k v x (y ∷ ys) e all = by (R k y.0) (below_put k v x ys e all.1)
    where
      by : (o : Ordering) → IsBelow (by_key R) x (insert_entry R ys k v)
          → IsBelow (by_key R) x (match_ordering o ((k, v) ∷ y ∷ ys) ((y.0, v) ∷ ys) (y ∷ insert_entry R ys k v))
      by Less rest = (e, all)
      by Equal rest = all
      by Greater rest = (all.0, rest)

  pub rising_put : (k : K) (v : X) (es : List (K × X)) → AreInOrder R es → AreInOrder R (insert_entry R es k v)
  rising_put k v [] r = (tt, tt)
  rising_put k v (y ∷ ys) r = by (R k y.0) refl (rising_put k v ys r.1)
    where
      by : (o : Ordering) → R k y.0 ≡ o → AreInOrder R (insert_entry R ys k v)
          → AreInOrder R (match_ordering o ((k, v) ∷ y ∷ ys) ((y.0, v) ∷ ys) (y ∷ insert_entry R ys k v))
      by Less e rest = ((e, below_all (by_key R) by_key_total (k, v) y ys e r.0), r)
      by Equal e rest = r
      by Greater e rest = (below_put k v y ys (turn_round R total k y.0 e) r.0, rest)

  pub found_put : (k : K) (v : X) (es : List (K × X)) → lookup (is_at (R k)) (insert_entry R es k v) ≡ Some v
  found_put k v [] = rw (tied_itself total k) refl
  found_put k v (e ∷ es) = by (found_put k v es) (R k e.0) refl
    where
      by : lookup (is_at (R k)) (insert_entry R es k v) ≡ Some v → (o : Ordering) → R k e.0 ≡ o
          → lookup (is_at (R k)) (insert_entry R (e ∷ es) k v) ≡ Some v
      by rest Less h = rw h (rw (tied_itself total k) refl)
      by rest Equal h = rw h (rw h refl)
      by rest Greater h = rw h (rw h rest)

  -- ---- removal

  below_without : (test : K → Bool) (x : K × X) (es : List (K × X)) → IsBelow (by_key R) x es
      → IsBelow (by_key R) x (remove_entry test es)
  below_without test x [] all = tt
  below_without test x (e ∷ es) all = by (below_without test x es all.1) (test e.0)
    where
      by : IsBelow (by_key R) x (remove_entry test es) → (b : Bool)
          → IsBelow (by_key R) x (cond b es (e ∷ remove_entry test es))
      by rest true = all.1
      by rest false = (all.0, rest)

  pub rising_without : (test : K → Bool) (es : List (K × X)) → AreInOrder R es → AreInOrder R (remove_entry test es)
  rising_without test [] r = tt
  rising_without test (e ∷ es) r = by (rising_without test es r.1) (test e.0)
    where
      by : AreInOrder R (remove_entry test es) → (b : Bool) → AreInOrder R (cond b es (e ∷ remove_entry test es))
      by rest true = r.1
      by rest false = (below_without test e es r.0, rest)

  none_below : (k : K) (es : List (K × X)) → AllByRecursion (λ (e : K × X). R k e.0 ≡ Less) es
      → lookup (is_at (R k)) es ≡ None
  none_below k [] all = refl
  none_below k (e ∷ es) all = rw (all.0) (none_below k es all.1)

  -- sorted entries have no second entry with the key
  pub gone_without : (k : K) (es : List (K × X)) → AreInOrder R es
      → lookup (is_at (R k)) (remove_entry (is_at (R k)) es) ≡ None
  gone_without k [] r = refl
  gone_without k (e ∷ es) r = by (R k e.0) refl (gone_without k es r.1)
    where
      behind : (fs : List (K × X)) → R k e.0 ≡ Equal → IsBelow (by_key R) e fs
          → AllByRecursion (λ (f : K × X). R k f.0 ≡ Less) fs
      behind [] h all = tt
      behind (f ∷ fs) h all = (total.congr k e.0 f.0 h ∙ all.0, behind fs h all.1)

      by : (o : Ordering) → R k e.0 ≡ o → lookup (is_at (R k)) (remove_entry (is_at (R k)) es) ≡ None
          → lookup (is_at (R k)) (remove_entry (is_at (R k)) (e ∷ es)) ≡ None
      by Less h rest = rw h (rw h rest)
      by Equal h rest = rw h (none_below k es (behind es h r.0))
      by Greater h rest = rw h (rw h rest)

  -- ---- other keys

  pub other_put : (k q : K) (v : X) (es : List (K × X)) → AreApart R k q
      → lookup (is_at (R q)) (insert_entry R es k v) ≡ lookup (is_at (R q)) es
  other_put k q v [] a = rw (a k (ap is_eq (tied_itself total k))) refl
  other_put k q v (e ∷ es) a = by (R k e.0) refl (other_put k q v es a)
    where
      by : (o : Ordering) → R k e.0 ≡ o → lookup (is_at (R q)) (insert_entry R es k v) ≡ lookup (is_at (R q)) es
          → lookup (is_at (R q)) (match_ordering o ((k, v) ∷ e ∷ es) ((e.0, v) ∷ es)
          (e ∷ insert_entry R es k v)) ≡ lookup (is_at (R q)) (e ∷ es)
      by Less h rest = rw (a k (ap is_eq (tied_itself total k))) refl
      by Equal h rest = let other : is_at (R q) e.0 ≡ false = a e.0 (ap is_eq h) in rw other refl
      by Greater h rest = ap (cond (is_at (R q) e.0) (Some e.1)) rest

  pub other_without : (k q : K) (es : List (K × X)) → AreApart R k q
      → lookup (is_at (R q)) (remove_entry (is_at (R k)) es) ≡ lookup (is_at (R q)) es
  other_without k q [] a = refl
  other_without k q (e ∷ es) a = by (is_at (R k) e.0) refl (other_without k q es a)
    where
      by : (b : Bool) → is_at (R k) e.0 ≡ b
          → lookup (is_at (R q)) (remove_entry (is_at (R k)) es) ≡ lookup (is_at (R q)) es
          → lookup (is_at (R q)) (cond b es (e ∷ remove_entry (is_at (R k)) es)) ≡ lookup (is_at (R q)) (e ∷ es)
      by true h rest = let other : is_at (R q) e.0 ≡ false = a e.0 h in
          sym (ap (λ b. cond b (Some e.1) (lookup (is_at (R q)) es)) other)
      by false h rest = ap (cond (is_at (R q) e.0) (Some e.1)) rest

  pub other_set : (k q : K) (v : X) (es : List (K × X)) → AreApart R k q
      → lookup (is_at (R q)) (set_value (is_at (R k)) es v) ≡ lookup (is_at (R q)) es
  other_set k q v [] a = refl
  other_set k q v (e ∷ es) a = by (is_at (R k) e.0) refl (other_set k q v es a)
    where
      by : (b : Bool) → is_at (R k) e.0 ≡ b
          → lookup (is_at (R q)) (set_value (is_at (R k)) es v) ≡ lookup (is_at (R q)) es
          → lookup (is_at (R q)) (cond b ((e.0, v) ∷ es) (e ∷ set_value (is_at (R k)) es v)) ≡ lookup (is_at (R q))
          (e ∷ es)
      by true h rest = let other : is_at (R q) e.0 ≡ false = a e.0 h in rw other refl
      by false h rest = ap (cond (is_at (R q) e.0) (Some e.1)) rest

-- ---- updating one value

module _ {K X : Type 0} (R : K → K → Ordering) where
  below_set : (test : K → Bool) (v : X) (x : K × X) (es : List (K × X)) → IsBelow (by_key R) x es
      → IsBelow (by_key R) x (set_value test es v)
  below_set test v x [] all = tt
  below_set test v x (e ∷ es) all = by (below_set test v x es all.1) (test e.0)
    where
      by : IsBelow (by_key R) x (set_value test es v) → (b : Bool)
          → IsBelow (by_key R) x (cond b ((e.0, v) ∷ es) (e ∷ set_value test es v))
      by rest true = all
      by rest false = (all.0, rest)

  pub rising_set : (test : K → Bool) (v : X) (es : List (K × X)) → AreInOrder R es → AreInOrder R (set_value test es v)
  rising_set test v [] r = tt
  rising_set test v (e ∷ es) r = by (rising_set test v es r.1) (test e.0)
    where
      by : AreInOrder R (set_value test es v) → (b : Bool)
          → AreInOrder R (cond b ((e.0, v) ∷ es) (e ∷ set_value test es v))
      by rest true = r
      by rest false = (below_set test v e es r.0, rest)

module _ {K X : Type 0} (test : K → Bool) where
  pub found_set : (v : X) (es : List (K × X)) → is_some (lookup test es) ≡ true
      → lookup test (set_value test es v) ≡ Some v
  found_set v [] h = absurd (cc h)
  found_set v (e ∷ es) h = by (found_set v es) (test e.0) refl h
    where
      by : (is_some (lookup test es) ≡ true → lookup test (set_value test es v) ≡ Some v) → (b : Bool) → test e.0 ≡ b
          → is_some (cond b (Some e.1) (lookup test es)) ≡ true → lookup test (set_value test (e ∷ es) v) ≡ Some v
      by rest true t h = rw t (rw t refl)
      by rest false t h = rw t (rw t (rest h))

-- ---- all values

module _ {K X : Type 0} (P : X → Type 0) where
  abbrev pub AllValues : List (K × X) → Type 0
  AllValues es = AllByRecursion (λ (e : K × X). P e.1) es

  pub all_put : (R : K → K → Ordering) (k : K) (v : X) (es : List (K × X)) → P v → AllValues es
      → AllValues (insert_entry R es k v)
  all_put R k v [] p all = (p, tt)
  all_put R k v (e ∷ es) p all = by (R k e.0) (all_put R k v es p all.1)
    where
      by : (o : Ordering) → AllValues (insert_entry R es k v)
          → AllValues (match_ordering o ((k, v) ∷ e ∷ es) ((e.0, v) ∷ es) (e ∷ insert_entry R es k v))
      by Less rest = (p, all)
      by Equal rest = (p, all.1)
      by Greater rest = (all.0, rest)

  pub all_set : (test : K → Bool) (v : X) (es : List (K × X)) → P v → AllValues es → AllValues (set_value test es v)
  all_set test v [] p all = tt
  all_set test v (e ∷ es) p all = by (all_set test v es p all.1) (test e.0)
    where
      by : AllValues (set_value test es v) → (b : Bool) → AllValues (cond b ((e.0, v) ∷ es) (e ∷ set_value test es v))
      by rest true = (p, all.1)
      by rest false = (all.0, rest)

  pub all_without : (test : K → Bool) (es : List (K × X)) → AllValues es → AllValues (remove_entry test es)
  all_without test [] all = tt
  all_without test (e ∷ es) all = by (all_without test es all.1) (test e.0)
    where
      by : AllValues (remove_entry test es) → (b : Bool) → AllValues (cond b es (e ∷ remove_entry test es))
      by rest true = all.1
      by rest false = (all.0, rest)

  pub all_found : (test : K → Bool) (v : X) (es : List (K × X)) → AllValues es → lookup test es ≡ Some v → P v
  all_found test v [] all h = absurd (cc h)
  all_found test v (e ∷ es) all h = by (all_found test v es all.1) (test e.0) h
    where
      by : (lookup test es ≡ Some v → P v) → (b : Bool) → cond b (Some e.1) (lookup test es) ≡ Some v → P v
      by rest true g = subst P (same_Some e.1 v g) all.0
      by rest false g = rest g

pub all_weaker : {K X : Type 0} (P Q : X → Type 0) → ((v : X) → P v → Q v) → (es : List (K × X)) → AllValues P es
    → AllValues Q es
all_weaker P Q f [] all = tt
all_weaker P Q f (e ∷ es) all = (f e.1 all.0, all_weaker P Q f es all.1)
