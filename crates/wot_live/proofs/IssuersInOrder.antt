-- The issuers of a certificate in order: sorted, and exactly those for whom a signature counts.
use Rattle.std.proofs.Common.{◌≡◌, ℕ, zero, suc, Bool, true, false, ◌||◌, List, [], ◌∷◌, Option, Some, None, Ordering}
use Rattle.std.proofs.Common.{refl, sym, ap, subst, ◌∙◌}
use Rattle.std.specs.declared.cmp.Ordering.TheVariants.{Less, Equal, Greater}
use Rattle.std.specs.BTreeSet.{insert_key}
use Rattle.std.specs.List.{AllByRecursion, cons_option, filter_map, list_any, slice_get}
use Rattle.std.specs.Option.{option_map_or}
use Rattle.std.specs.Ordering.{match_ordering, ordering_reverse}
use Rattle.std.proofs.lemmas.Bool.{or_parts}
use Rattle.std.proofs.lemmas.List.Folds.{list_any-append}
use Rattle.std.proofs.lemmas.Map.Keys.{sorted_head, sorted_tail}
use Rattle.wot_types.specs.declared.fpr.Fpr.{Fpr}
use Rattle.wot_types.specs.Fpr.{fpr_cmp, same_fpr}
use Rattle.wot_types.specs.FprLaws.{fpr_exact, fpr_total}
use Rattle.wot_verdict.specs.Verdicts.{Entries}
use Rattle.wot_component.specs.Certificate.{Signature, Component}
use Rattle.wot_component.specs.Counts.{sigs_on}
use Rattle.wot_cert.specs.Issuer.{counts_by, issuer_of}
use Rattle.wot_live.specs.Rows.{fprs_in_order}
use Rattle.wot_live.proofs.OneList.{Sorted, none_sorted, sorted_more}

-- ---- fingerprints in order

abbrev pub IsLeast : Fpr → List Fpr → Type 0
IsLeast fpr fprs = AllByRecursion (λ y. fpr_cmp fpr y ≡ Less) fprs

least_least : (x y : Fpr) (zs : List Fpr) → fpr_cmp x y ≡ Less → IsLeast y zs → IsLeast x zs
least_least x y [] l h = tt
least_least x y (z ∷ zs) l h = (fpr_total.trans x y z l h.0, least_least x y zs l h.1)

all_insert : (P : Fpr → Type 0) (ks : List Fpr) (k : Fpr) → P k → AllByRecursion P ks →
    AllByRecursion P (insert_key fpr_cmp ks k)
all_insert P [] k p h = (p, tt)
all_insert P (x ∷ xs) k p h = by (fpr_cmp k x) (all_insert P xs k p h.1)
  where
    by : (o : Ordering) → AllByRecursion P (insert_key fpr_cmp xs k) →
        AllByRecursion P (match_ordering o (k ∷ x ∷ xs) (x ∷ xs) (x ∷ insert_key fpr_cmp xs k))
    by Less r = (p, h)
    by Equal r = h
    by Greater r = (h.0, r)

sorted_insert : (ks : List Fpr) (k : Fpr) → Sorted fpr_cmp ks → Sorted fpr_cmp (insert_key fpr_cmp ks k)
sorted_insert [] k h = sorted_more fpr_cmp k [] tt h
sorted_insert (x ∷ xs) k h = by (fpr_cmp k x) refl (sorted_insert xs k (sorted_tail fpr_cmp x xs h))
  where
    by : (o : Ordering) → fpr_cmp k x ≡ o → Sorted fpr_cmp (insert_key fpr_cmp xs k) →
        Sorted fpr_cmp (match_ordering o (k ∷ x ∷ xs) (x ∷ xs) (x ∷ insert_key fpr_cmp xs k))
    by Less f r = sorted_more fpr_cmp k (x ∷ xs) (f, least_least k x xs f (sorted_head fpr_cmp x xs h)) h
    by Equal f r = h
    by Greater f r =
        sorted_more fpr_cmp x (insert_key fpr_cmp xs k) (all_insert (λ y. fpr_cmp x y ≡ Less) xs k
        (fpr_total.antisymm x k ∙ ap ordering_reverse f) (sorted_head fpr_cmp x xs h)) r

pub sorted_in_order : (fprs : List Fpr) → Sorted fpr_cmp (fprs_in_order fprs)
sorted_in_order [] = none_sorted fpr_cmp
sorted_in_order (fpr ∷ fprs) = sorted_insert (fprs_in_order fprs) fpr (sorted_in_order fprs)

or_twice : (a b : Bool) → (a || b) ≡ (a || (a || b))
or_twice true b = refl
or_twice false b = refl

or_swapped : (a b c : Bool) → (a || (b || c)) ≡ (b || (a || c))
or_swapped true true c = refl
or_swapped true false c = refl
or_swapped false b c = refl

any_insert : (issuer : Fpr) (ks : List Fpr) (k : Fpr) → list_any (same_fpr issuer) (insert_key fpr_cmp ks k) ≡
    (same_fpr issuer k || list_any (same_fpr issuer) ks)
any_insert issuer [] k = refl
any_insert issuer (x ∷ xs) k = by (fpr_cmp k x) refl (any_insert issuer xs k)
  where
    by : (o : Ordering) → fpr_cmp k x ≡ o →
        list_any (same_fpr issuer) (insert_key fpr_cmp xs k) ≡ (same_fpr issuer k || list_any (same_fpr issuer) xs) →
        list_any (same_fpr issuer) (match_ordering o (k ∷ x ∷ xs) (x ∷ xs) (x ∷ insert_key fpr_cmp xs k)) ≡
        (same_fpr issuer k || (same_fpr issuer x || list_any (same_fpr issuer) xs))
    by Less f r = refl
    by Equal f r =
        or_twice (same_fpr issuer x) (list_any (same_fpr issuer) xs)
        ∙ ap (λ y. same_fpr issuer y || (same_fpr issuer x || list_any (same_fpr issuer) xs)) (sym (fpr_exact k x f))
    by Greater f r =
        ap (λ b. same_fpr issuer x || b) r
        ∙ or_swapped (same_fpr issuer x) (same_fpr issuer k) (list_any (same_fpr issuer) xs)

pub any_in_order : (issuer : Fpr) (fprs : List Fpr) → list_any (same_fpr issuer) (fprs_in_order fprs) ≡
    list_any (same_fpr issuer) fprs
any_in_order issuer [] = refl
any_in_order issuer (fpr ∷ fprs) =
    any_insert issuer (fprs_in_order fprs) fpr ∙ ap (λ b. same_fpr issuer fpr || b) (any_in_order issuer fprs)

-- ---- who is an issuer

pub any_issuer : (verdicts : Entries) (issuer : Fpr) (ss : List Signature) →
    list_any (same_fpr issuer) (filter_map (issuer_of verdicts) ss) ≡ list_any (counts_by verdicts issuer) ss
any_issuer verdicts issuer [] = refl
any_issuer verdicts issuer (s ∷ ss) = by (issuer_of verdicts s) (any_issuer verdicts issuer ss)
  where
    by : (o : Option Fpr) →
        list_any (same_fpr issuer) (filter_map (issuer_of verdicts) ss) ≡ list_any (counts_by verdicts issuer) ss →
        list_any (same_fpr issuer) (cons_option o (filter_map (issuer_of verdicts) ss)) ≡
        (option_map_or (same_fpr issuer) o false || list_any (counts_by verdicts issuer) ss)
    by None r = r
    by (Some x) r = ap (λ b. same_fpr issuer x || b) r

pub none_on : (test : Signature → Bool) (uids : List Component) (k : ℕ) (p : Component) → slice_get uids k ≡ Some p →
    list_any test (sigs_on uids) ≡ false → list_any test p.sigs ≡ false
none_on test [] k p e h = absurd cc
none_on test (x ∷ xs) zero p e h =
    let same : x ≡ p = cc e in
    subst (λ (y : Component). list_any test y.sigs ≡ false) same
    (or_parts (list_any test x.sigs) (list_any test (sigs_on xs))
    (sym (list_any-append test x.sigs (sigs_on xs)) ∙ h)).0
none_on test (x ∷ xs) (suc k) p e h =
    none_on test xs k p e
    (or_parts (list_any test x.sigs) (list_any test (sigs_on xs))
    (sym (list_any-append test x.sigs (sigs_on xs)) ∙ h)).1
