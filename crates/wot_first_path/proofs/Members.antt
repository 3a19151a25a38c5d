-- Membership in a set in order.
use Rattle.std.proofs.Common.{◌≡◌, ◌≤◌, ◌+◌, ◌⊎◌, inl, inr, Bool, true, false, List, [], ◌∷◌, length, Ordering, refl, sym, subst, arith}
use Rattle.std.specs.Prelude.{◌||◌}
use Rattle.std.specs.declared.cmp.Ordering.TheVariants.{Less, Equal, Greater}
use Rattle.std.specs.Ordering.{match_ordering}
use Rattle.std.specs.BTreeMap.{is_at}
use Rattle.std.specs.BTreeSet.{insert_key}
use Rattle.std.specs.List.{list_any}
use Rattle.wot_types.specs.declared.fpr.Fpr.{Fpr}
use Rattle.wot_types.specs.Fpr.{fpr_cmp, same_fpr}
use Rattle.wot_types.specs.FprLaws.{same_fpr-true, same_fpr-refl, fpr_exact}
use Rattle.wot_edge.specs.Record.{Has}

pub any_has : (xs : List Fpr) (x : Fpr) → list_any (is_at (fpr_cmp x)) xs ≡ true → Has xs x
any_has [] x e = absurd cc
any_has (y ∷ xs) x e = by (any_has xs x) (same_fpr x y) refl e
  where
    by : (list_any (is_at (fpr_cmp x)) xs ≡ true → Has xs x) → (b : Bool) → same_fpr x y ≡ b
        → (b || list_any (is_at (fpr_cmp x)) xs) ≡ true → (x ≡ y) ⊎ Has xs x
    by ih true f g = inl (same_fpr-true x y f)
    by ih false f g = inr (ih g)

pub has_any : (xs : List Fpr) (x : Fpr) → Has xs x → list_any (is_at (fpr_cmp x)) xs ≡ true
has_any [] x h = absurd h
has_any (y ∷ xs) x (inl e) =
    let s : same_fpr x y ≡ true = subst (λ (z : Fpr). same_fpr x z ≡ true) e (same_fpr-refl x) in
    subst (λ (b : Bool). (b || list_any (is_at (fpr_cmp x)) xs) ≡ true) (sym s) refl
has_any (y ∷ xs) x (inr h) = by (has_any xs x h) (same_fpr x y)
  where
    by : list_any (is_at (fpr_cmp x)) xs ≡ true → (b : Bool) → (b || list_any (is_at (fpr_cmp x)) xs) ≡ true
    by ih true = refl
    by ih false = ih

pub insert_has : (xs : List Fpr) (x : Fpr) → Has (insert_key fpr_cmp xs x) x
insert_has [] x = inl refl
insert_has (y ∷ xs) x = by (insert_has xs x) (fpr_cmp x y) refl
  where
    by : Has (insert_key fpr_cmp xs x) x → (o : Ordering) → fpr_cmp x y ≡ o
        → Has (match_ordering o (x ∷ y ∷ xs) (y ∷ xs) (y ∷ insert_key fpr_cmp xs x)) x
    by ih Less e = inl refl
    by ih Equal e = inl (fpr_exact x y e)
    by ih Greater e = inr ih

pub insert_one : (xs : List Fpr) (x : Fpr) → length (insert_key fpr_cmp xs x) ≤ length xs + 1
insert_one [] x = omega arith
insert_one (y ∷ xs) x = by (insert_one xs x) (fpr_cmp x y)
  where
    by : length (insert_key fpr_cmp xs x) ≤ length xs + 1 → (o : Ordering)
        → length (match_ordering o (x ∷ y ∷ xs) (y ∷ xs) (y ∷ insert_key fpr_cmp xs x)) ≤ length (y ∷ xs) + 1
    by ih Less = omega arith
    by ih Equal = omega arith
    by ih Greater = omega (arith, ih)

pub insert_grows : (xs : List Fpr) (x other : Fpr) → Has xs other → Has (insert_key fpr_cmp xs x) other
insert_grows [] x other h = absurd h
insert_grows (y ∷ xs) x other h = by (insert_grows xs x other) (fpr_cmp x y)
  where
    by : (Has xs other → Has (insert_key fpr_cmp xs x) other) → (o : Ordering)
        → Has (match_ordering o (x ∷ y ∷ xs) (y ∷ xs) (y ∷ insert_key fpr_cmp xs x)) other
    by ih Less = inr h
    by ih Equal = h
    by ih Greater = elim h [ inl e ↦ inl e | inr k ↦ inr (ih k) ]

pub insert_only : (xs : List Fpr) (x other : Fpr) → Has (insert_key fpr_cmp xs x) other → Has xs other ⊎ (other ≡ x)
insert_only [] x other h = elim h [ inl e ↦ inr e | inr k ↦ absurd k ]
insert_only (y ∷ xs) x other h = by (insert_only xs x other) (fpr_cmp x y) h
  where
    by : (Has (insert_key fpr_cmp xs x) other → Has xs other ⊎ (other ≡ x)) → (o : Ordering)
        → Has (match_ordering o (x ∷ y ∷ xs) (y ∷ xs) (y ∷ insert_key fpr_cmp xs x)) other
        → Has (y ∷ xs) other ⊎ (other ≡ x)
    by ih Less h = elim h [ inl e ↦ inr e | inr k ↦ inl k ]
    by ih Equal h = inl h
    by ih Greater h = elim h [ inl e ↦ inl (inl e) | inr k ↦ elim (ih k) [ inl m ↦ inl (inr m) | inr e ↦ inr e ] ]
