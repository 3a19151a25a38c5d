-- Appending to sorted entries: where a new entry goes, what comes before it, and how it is found.
use Rattle.std.proofs.Common.{◌≡◌, List, [], ◌∷◌, ◌++◌, Some, None, refl, ap, ◌∙◌}
use Rattle.std.specs.declared.cmp.Ordering.{Ordering}
use Rattle.std.specs.declared.cmp.Ordering.TheVariants.{Less, Equal, Greater}
use Rattle.std.specs.Ordering.{ordering_reverse}
use Rattle.std.specs.Cmp.{IsTotalOrder}
use Rattle.std.specs.BTreeMap.{insert_entry, is_at}
use Rattle.std.specs.Map.{keys_of, lookup, set_value}
use Rattle.std.specs.List.{AllByRecursion}
use Rattle.std.specs.List.Sorted.{IsStrictlySortedBy}

-- what holds for each holds for the one at this place
pub all_at : {A : Type 0} (P : A → Type 0) (prefix : List A) (x : A) (rest : List A)
    → AllByRecursion P (prefix ++ x ∷ rest) → P x
all_at P [] x rest all = all.0
all_at P (y ∷ prefix) x rest all = all_at P prefix x rest all.1

turned : {K : Type 0} {R : K → K → Ordering} → IsTotalOrder R → (k l : K) → R l k ≡ Less → R k l ≡ Greater
turned o k l h = o.antisymm k l ∙ ap ordering_reverse h

key_at : {K X : Type 0} (P : K → Type 0) (prefix : List (K × X)) (e : K × X) (rest : List (K × X))
    → AllByRecursion P (keys_of (prefix ++ e ∷ rest)) → P e.0
key_at P [] e rest all = all.0
key_at P (f ∷ prefix) e rest all = key_at P prefix e rest all.1

module _ {K X : Type 0} (R : K → K → Ordering) where
  -- All keys of these entries are below this one.
  abbrev pub AreBelow : K → List (K × X) → Type 0
  AreBelow k es = AllByRecursion (λ (e : K × X). R e.0 k ≡ Less) es

  -- an entry whose key is above all others is appended
  pub put_behind : IsTotalOrder R → (es : List (K × X)) (k : K) (v : X) → AreBelow k es
      → insert_entry R es k v ≡ es ++ (k, v) ∷ []
  put_behind o [] k v below = refl
  put_behind o (e ∷ es) k v below =
      let above : R k e.0 ≡ Greater = turned o k e.0 below.0 in
      rw above (ap (λ (rest : List (K × X)). e ∷ rest) (put_behind o es k v below.1))

  -- and its key isn't among theirs
  pub none_before : IsTotalOrder R → (es : List (K × X)) (k : K) → AreBelow k es → lookup (is_at (R k)) es ≡ None
  none_before o [] k below = refl
  none_before o (e ∷ es) k below =
      let above : R k e.0 ≡ Greater = turned o k e.0 below.0 in
      rw above (none_before o es k below.1)

  -- if keys rise, those before one are below it
  pub below_next : (prefix : List (K × X)) (e : K × X) (rest : List (K × X))
      → IsStrictlySortedBy R (keys_of (prefix ++ e ∷ rest)) → AreBelow e.0 prefix
  unfolding IsStrictlySortedBy
  below_next [] e rest order = tt
  below_next (f ∷ prefix) e rest order =
      (key_at (λ k. R f.0 k ≡ Less) prefix e rest order.0, below_next prefix e rest order.1)

  -- the last entry is found under its key
  pub last_found : IsTotalOrder R → (es : List (K × X)) (k : K) (v : X) → AreBelow k es → R k k ≡ Equal
      → lookup (is_at (R k)) (es ++ (k, v) ∷ []) ≡ Some v
  last_found o [] k v below same = rw same refl
  last_found o (e ∷ es) k v below same =
      let above : R k e.0 ≡ Greater = turned o k e.0 below.0 in
      rw above (last_found o es k v below.1 same)

  -- and changed under its key
  pub last_set : IsTotalOrder R → (es : List (K × X)) (k : K) (v w : X) → AreBelow k es → R k k ≡ Equal
      → set_value (is_at (R k)) (es ++ (k, v) ∷ []) w ≡ es ++ (k, w) ∷ []
  last_set o [] k v w below same = rw same refl
  last_set o (e ∷ es) k v w below same =
      let above : R k e.0 ≡ Greater = turned o k e.0 below.0 in
      rw above (ap (λ (rest : List (K × X)). e ∷ rest) (last_set o es k v w below.1 same))
