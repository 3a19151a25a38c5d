-- Two sorted lists with the same edge of each issuer and user ID are one list.
use Rattle.std.proofs.Common.{◌≡◌, ℕ, Bool, true, false, cond, ◌&&◌, List, [], ◌∷◌, Some, None, Ordering, refl, sym, ap}
use Rattle.std.proofs.Common.{subst, ◌∙◌}
use Rattle.std.specs.declared.cmp.Ordering.TheVariants.{Less, Equal, Greater}
use Rattle.std.specs.Prelude.{◌==◌}
use Rattle.std.specs.List.{AllByRecursion}
use Rattle.std.specs.List.Sorted.{IsStrictlySortedBy}
use Rattle.std.specs.Ordering.{is_eq, ordering_reverse}
use Rattle.std.proofs.lemmas.Cmp.{tied_itself}
use Rattle.std.proofs.lemmas.Map.Keys.{sorted_head, sorted_tail}
use Rattle.wot_types.specs.declared.fpr.Fpr.{Fpr}
use Rattle.wot_types.specs.Fpr.{same_fpr}
use Rattle.wot_types.specs.FprLaws.{fpr_total}
use Rattle.wot_edge.specs.declared.edge.EdgeFacts.{EdgeFacts}
use Rattle.wot_edge.specs.Order.{edge_cmp}
use Rattle.wot_live.specs.Rows.{edge_at, is_edge_of}
use Rattle.wot_live.proofs.Exact.{equal-refl, tied}
use Rattle.wot_live.proofs.Orders.{edge_exact, edge_total}

-- ---- in order

abbrev pub IsBelow : EdgeFacts → List EdgeFacts → Type 0
IsBelow e es = AllByRecursion (λ y. edge_cmp e y ≡ Less) es

below_below : (e y : EdgeFacts) (ys : List EdgeFacts) → edge_cmp e y ≡ Less → IsBelow y ys → IsBelow e ys
below_below e y [] l h = tt
below_below e y (z ∷ zs) l h = (edge_total.trans e y z l h.0, below_below e y zs l h.1)

abbrev pub Sorted : {K : Type 0} → (K → K → Ordering) → List K → Type 0
Sorted cmp = IsStrictlySortedBy cmp

pub sorted_more : {K : Type 0} (cmp : K → K → Ordering) (k : K) (ks : List K) →
    AllByRecursion (λ y. cmp k y ≡ Less) ks → IsStrictlySortedBy cmp ks → IsStrictlySortedBy cmp (k ∷ ks)
unfolding IsStrictlySortedBy
sorted_more cmp k ks b h = (b, h)

pub none_sorted : {K : Type 0} (cmp : K → K → Ordering) → IsStrictlySortedBy cmp []
unfolding IsStrictlySortedBy
none_sorted cmp = tt

-- ---- one list has the edge of each issuer and user ID

-- the edge isn't among those above it
none_above : (issuer : Fpr) (uid : ℕ) (e : EdgeFacts) → is_edge_of issuer uid e ≡ true → (fs : List EdgeFacts) →
    IsBelow e fs → edge_at fs issuer uid ≡ None
none_above issuer uid e h [] below = refl
none_above issuer uid e h (f ∷ fs) below =
    by (is_edge_of issuer uid f) refl (none_above issuer uid e h fs below.1)
  where
    by : (b : Bool) → is_edge_of issuer uid f ≡ b → edge_at fs issuer uid ≡ None →
        cond b (Some f) (edge_at fs issuer uid) ≡ None
    by true g rest = let t = tied issuer uid e f h g in let l : edge_cmp e f ≡ Less = below.0 in absurd (cc (t, l))
    by false g rest = rest

itself : (e : EdgeFacts) → is_edge_of e.issuer e.uid e ≡ true
itself e =
    ap (λ b. b && (e.uid == e.uid)) (same_itself e.issuer) ∙ equal-refl e.uid
  where
    same_itself : (fpr : Fpr) → same_fpr fpr fpr ≡ true
    same_itself fpr = ap is_eq (tied_itself fpr_total fpr)

first_at : (e : EdgeFacts) (es : List EdgeFacts) → edge_at (e ∷ es) e.issuer e.uid ≡ Some e
first_at e es = ap (λ b. cond b (Some e) (edge_at es e.issuer e.uid)) (itself e)

later_at : (issuer : Fpr) (uid : ℕ) (e : EdgeFacts) (es : List EdgeFacts) → is_edge_of issuer uid e ≡ false →
    edge_at (e ∷ es) issuer uid ≡ edge_at es issuer uid
later_at issuer uid e es h = ap (λ b. cond b (Some e) (edge_at es issuer uid)) h

abbrev HaveSame : List EdgeFacts → List EdgeFacts → Type 0
HaveSame es fs = (issuer : Fpr) (uid : ℕ) → edge_at es issuer uid ≡ edge_at fs issuer uid

same_tails : (e : EdgeFacts) (es fs : List EdgeFacts) → IsBelow e es → IsBelow e fs → HaveSame (e ∷ es) (e ∷ fs) →
    HaveSame es fs
same_tails e es fs a b h issuer uid = by (is_edge_of issuer uid e) refl
  where
    by : (t : Bool) → is_edge_of issuer uid e ≡ t → edge_at es issuer uid ≡ edge_at fs issuer uid
    by true g = none_above issuer uid e g es a ∙ sym (none_above issuer uid e g fs b)
    by false g = sym (later_at issuer uid e es g) ∙ h issuer uid ∙ later_at issuer uid e fs g

-- an edge below another list's first isn't in that list
absent : (e f : EdgeFacts) (es fs : List EdgeFacts) → edge_cmp e f ≡ Less → Sorted edge_cmp (f ∷ fs) →
    HaveSame (e ∷ es) (f ∷ fs) → ⊥
absent e f es fs l sorted h =
    let none = none_above e.issuer e.uid e (itself e) (f ∷ fs)
    (l, below_below e f fs l (sorted_head edge_cmp f fs sorted)) in
    let some = first_at e es in
    let same = h e.issuer e.uid in
    absurd (cc (none, some, same))

first_same : (e f : EdgeFacts) (es fs : List EdgeFacts) → edge_cmp e f ≡ Equal → HaveSame (e ∷ es) (f ∷ fs) → e ≡ f
first_same e f es fs t h =
    let (issuers, uids) = edge_exact e f t in
    let at : edge_at (f ∷ fs) e.issuer e.uid ≡ edge_at (f ∷ fs) f.issuer f.uid =
    ap (λ i. edge_at (f ∷ fs) i e.uid) issuers ∙ ap (λ u. edge_at (f ∷ fs) f.issuer u) uids in
    let same : Some e ≡ Some f = sym (first_at e es) ∙ h e.issuer e.uid ∙ at ∙ first_at f fs in
    cc same

pub one_list : (es fs : List EdgeFacts) → Sorted edge_cmp es → Sorted edge_cmp fs → HaveSame es fs → es ≡ fs
one_list [] [] a b h = refl
one_list [] (f ∷ fs) a b h = let some = first_at f fs in let same = h f.issuer f.uid in absurd (cc (some, same))
one_list (e ∷ es) [] a b h = let some = first_at e es in let same = h e.issuer e.uid in absurd (cc (some, same))
one_list (e ∷ es) (f ∷ fs) a b h =
    by (edge_cmp e f) refl (one_list es fs (sorted_tail edge_cmp e es a) (sorted_tail edge_cmp f fs b))
  where
    by : (o : Ordering) → edge_cmp e f ≡ o → (HaveSame es fs → es ≡ fs) → (e ∷ es) ≡ (f ∷ fs)
    by Less l rest = absurd (absent e f es fs l b h)
    by Greater l rest =
        absurd (absent f e fs es (edge_total.antisymm f e ∙ ap ordering_reverse l) a (λ issuer uid. sym (h issuer uid)))
    by Equal t rest =
        let same = first_same e f es fs t h in
        let below = subst (λ x. IsBelow x fs) (sym same) (sorted_head edge_cmp f fs b) in
        let tails = same_tails e es fs (sorted_head edge_cmp e es a) below
        (subst (λ x. HaveSame (e ∷ es) (x ∷ fs)) (sym same) h) in
        ap (λ (x : EdgeFacts). x ∷ es) same ∙ ap (λ (xs : List EdgeFacts). f ∷ xs) (rest tails)
