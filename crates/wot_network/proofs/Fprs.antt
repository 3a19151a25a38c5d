-- Fingerprints, and what is found under them.
use Rattle.std.proofs.Common.{◌≡◌, true, false, Bool, ◌||◌, cond, map, List, [], ◌∷◌, Option, Some, None, refl, sym, ap}
use Rattle.std.proofs.Common.{◌∙◌, subst}
use Rattle.std.specs.Cmp.{IsTotalOrder}
use Rattle.std.specs.BTreeMap.{insert_entry}
use Rattle.std.specs.List.Sorted.{IsStrictlySortedBy}
use Rattle.std.specs.Ordering.{is_eq, match_ordering, ordering_reverse}
use Rattle.std.specs.declared.cmp.Ordering.TheVariants.{Less, Equal, Greater}
use Rattle.std.specs.List.{AllByRecursion}
use Rattle.std.specs.Map.{lookup, keys_of, remove_entry}
use Rattle.std.proofs.lemmas.Cmp.{eq_by_cmp_equiv, tied_itself}
use Rattle.std.proofs.lemmas.Map.{lookup-remove_entry}
use Rattle.std.proofs.lemmas.Map.Keys.{IsDistinct-from_sorted, sorted_head, sorted_tail}
use Rattle.std.proofs.lemmas.Map.Lookups.{CmpEqualImpliesEq}
use Rattle.std.proofs.lemmas.Map.Views.{tells_apart}
use Rattle.wot_types.specs.declared.fpr.Fpr.{Fpr}
use Rattle.wot_types.specs.Fpr.{fpr_cmp}
use Rattle.wot_types.specs.FprLaws.{fpr_total, fpr_exact}
use Rattle.wot_key.specs.Key.{fpr_of}
use Rattle.wot_component.specs.Certificate.{Certificate}
use Rattle.wot_keyring_spec.specs.declared.kept.Kept.{Kept}
use Rattle.wot_keyring_spec.specs.Keyring.{Entries, is_fpr, stripped}
use Rattle.wot_keyring_spec.specs.Kept.{AreNamed, AreSortedByFpr}
use Rattle.wot_index.specs.Log.{is_named_in}

pub fprs_total : IsTotalOrder fpr_cmp
fprs_total = fpr_total

pub exact : CmpEqualImpliesEq fpr_cmp
exact a b e = fpr_exact a b e

pub same_fpr : (a b : Fpr) → is_fpr a b ≡ true → a ≡ b
same_fpr a b h = tells_apart exact a b h

pub itself : (f : Fpr) → is_fpr f f ≡ true
itself f = ap is_eq (tied_itself fprs_total f)

pub turned : (a b : Fpr) → is_fpr a b ≡ true → is_fpr b a ≡ true
turned a b h = subst (λ (x : Fpr). is_fpr b x ≡ true) (sym (same_fpr a b h)) (itself b)

pub both_ways : (a b : Fpr) → is_fpr a b ≡ is_fpr b a
both_ways a b = by (is_fpr a b) (is_fpr b a) (turned a b) (turned b a)
  where
    by : (x y : Bool) → (x ≡ true → y ≡ true) → (y ≡ true → x ≡ true) → x ≡ y
    by true y f g = sym (f refl)
    by false true f g = g refl
    by false false f g = refl

greater_apart : (q a b : Fpr) → fpr_cmp a b ≡ Greater → is_fpr q b ≡ true → is_fpr a q ≡ true → ⊥
greater_apart q a b greater h k =
    let same : a ≡ b = same_fpr a q k ∙ same_fpr q b h in
    let equal : fpr_cmp a b ≡ Equal = ap (λ (x : Fpr). fpr_cmp a x) (sym same) ∙ tied_itself fprs_total a in
    cc

-- what comes after an entry has other fingerprints
pub apart : (f : Fpr) (es : Entries) → AllByRecursion (λ y. fpr_cmp f y ≡ Less) (keys_of es) →
    AllByRecursion (λ (e : Fpr × Kept). is_fpr f e.0 ≡ false) es
apart f [] below = tt
apart f (e ∷ es) below = (ap is_eq below.0, apart f es below.1)

pub away : (f q : Fpr) → fpr_cmp f q ≡ Less → is_fpr q f ≡ false
away f q less = ap is_eq (fprs_total.antisymm q f ∙ ap ordering_reverse less)

-- each entry is found under its fingerprint
lifted : (e : Fpr × Kept) (es ys : Entries) → AllByRecursion (λ (x : Fpr × Kept). lookup (is_fpr x.0) es ≡ Some x.1)
    ys → AllByRecursion (λ y. fpr_cmp e.0 y ≡ Less) (keys_of ys) →
    AllByRecursion (λ (x : Fpr × Kept). lookup (is_fpr x.0) (e ∷ es) ≡ Some x.1) ys
lifted e es [] all below = tt
lifted e es (y ∷ ys) all below =
    (ap (λ b. cond b (Some e.1) (lookup (is_fpr y.0) es)) (away e.0 y.0 below.0) ∙ all.0, lifted e es ys all.1 below.1)

pub found_each : (es : Entries) → AreSortedByFpr es →
    AllByRecursion (λ (x : Fpr × Kept). lookup (is_fpr x.0) es ≡ Some x.1) es
found_each [] sorted = tt
found_each (e ∷ es) sorted = (
  ap (λ b. cond b (Some e.1) (lookup (is_fpr e.0) es)) (itself e.0),
  lifted e es es (found_each es (sorted_tail fpr_cmp e.0 (keys_of es) sorted))
      (sorted_head fpr_cmp e.0 (keys_of es) sorted),
)

-- ---- names

pub named_certs : (es : Entries) → AreNamed es → AllByRecursion (λ (e : Fpr × Certificate). e.0 ≡ fpr_of e.1.key)
    (stripped es)
named_certs [] all = tt
named_certs (e ∷ es) all = (all.0, named_certs es all.1)

-- what is found is among the certificates
pub found_named : (q : Fpr) (es : Entries) (x : Kept) → AreNamed es → lookup (is_fpr q) es ≡ Some x →
    is_named_in (map (λ (e : Fpr × Kept). e.1.cert) es) q ≡ true
found_named q [] x all f = absurd cc
found_named q (e ∷ es) x all f = by (is_fpr q e.0) refl f (found_named q es x all.1)
  where
    more : (a b : Bool) → b ≡ true → a || b ≡ true
    more true b h = refl
    more false b h = h

    by : (b : Bool) → is_fpr q e.0 ≡ b → cond b (Some e.1) (lookup (is_fpr q) es) ≡ Some x →
        (lookup (is_fpr q) es ≡ Some x → is_named_in (map (λ (y : Fpr × Kept). y.1.cert) es) q ≡ true)
        → is_fpr (fpr_of e.1.cert.key) q || is_named_in (map (λ (y : Fpr × Kept). y.1.cert) es) q ≡ true
    by true t g later = ap (λ b. b || is_named_in (map (λ (y : Fpr × Kept). y.1.cert) es) q)
        (ap (λ (f : Fpr). is_fpr f q) (sym all.0) ∙ turned q e.0 t)
    by false t g later = more (is_fpr (fpr_of e.1.cert.key) q) _ (later g)

-- ---- what is found after something is put in, or taken out

module _ {V : Type 0} where
  same_twice : (b : Bool) (x y : V) (o : Option V) → cond b (Some x) o ≡ cond b (Some x) (cond b (Some y) o)
  same_twice true x y o = refl
  same_twice false x y o = refl

  swapped : (a b : Bool) (x y : V) (o : Option V) → (a ≡ true → b ≡ true → ⊥) →
      cond a (Some x) (cond b (Some y) o) ≡ cond b (Some y) (cond a (Some x) o)
  swapped true true x y o apart = absurd (apart refl refl)
  swapped true false x y o apart = refl
  swapped false true x y o apart = refl
  swapped false false x y o apart = refl

  pub found_put : (q : Fpr) (es : List (Fpr × V)) (fpr : Fpr) (v : V) →
      lookup (is_fpr q) (insert_entry fpr_cmp es fpr v) ≡ cond (is_fpr fpr q) (Some v) (lookup (is_fpr q) es)
  found_put q [] fpr v = ap (λ b. cond b (Some v) None) (both_ways q fpr)
  found_put q (e ∷ es) fpr v =
      elim (fpr_cmp fpr e.0) as (λ r. fpr_cmp fpr e.0 ≡ r →
      lookup (is_fpr q) (match_ordering r ((fpr, v) ∷ e ∷ es) ((e.0, v) ∷ es) (e ∷ insert_entry fpr_cmp es fpr v)) ≡
      cond (is_fpr fpr q) (Some v) (cond (is_fpr q e.0) (Some e.1) (lookup (is_fpr q) es))) [
        | Less ↦ λ less. ap (λ b. cond b (Some v) (cond (is_fpr q e.0) (Some e.1) (lookup (is_fpr q) es)))
            (both_ways q fpr)
        | Equal ↦ λ equal.
            same_twice (is_fpr q e.0) v e.1 (lookup (is_fpr q) es)
            ∙ ap (λ b. cond b (Some v) (cond (is_fpr q e.0) (Some e.1) (lookup (is_fpr q) es))) (both_ways q e.0
            ∙ ap (λ (f : Fpr). is_fpr f q) (sym (exact fpr e.0 equal)))
        | Greater ↦ λ greater.
            ap (λ (o : Option V). cond (is_fpr q e.0) (Some e.1) o) (found_put q es fpr v)
            ∙ swapped (is_fpr q e.0) (is_fpr fpr q) e.1 v (lookup (is_fpr q) es) (greater_apart q fpr e.0 greater)
      ] refl

  pub found_out : (fpr q : Fpr) (es : List (Fpr × V)) → IsStrictlySortedBy fpr_cmp (keys_of es) →
      lookup (is_fpr q) (remove_entry (is_fpr fpr) es) ≡ cond (is_fpr fpr q) None (lookup (is_fpr q) es)
  found_out fpr q es sorted =
      lookup-remove_entry (eq_by_cmp_equiv fprs_total) (is_fpr fpr) (λ x y h. ap (λ (z : Fpr). is_fpr z y)
      (same_fpr fpr x h)) q es (IsDistinct-from_sorted fpr_cmp (keys_of es) sorted)
