-- The entries of a table.
use Rattle.std.proofs.Common.{◌≡◌, ◌⊎◌, inl, inr, ℕ, ◌<◌, ◌≤◌, Bool, true, false, cond, List, [], ◌∷◌, Ordering, Some}
use Rattle.std.proofs.Common.{refl, sym, ap, subst, ◌∙◌}
use Rattle.std.specs.declared.cmp.Ordering.TheVariants.{Less, Equal, Greater}
use Rattle.std.specs.Ordering.{match_ordering}
use Rattle.std.specs.Map.{keys_of}
use Rattle.std.specs.BTreeMap.{insert_entry}
use Rattle.std.specs.List.{AllByRecursion}
use Rattle.std.specs.List.Sorted.{IsStrictlySortedBy}
use Rattle.std.proofs.lemmas.Cmp.{tied_itself}
use Rattle.wot_types.specs.declared.fpr.Fpr.{Fpr}
use Rattle.wot_types.specs.Fpr.{fpr_cmp, same_fpr}
use Rattle.wot_types.specs.FprLaws.{fpr_total, same_fpr-true, same_fpr-refl}
use Rattle.wot_edge.specs.Record.{Has}
use Rattle.wot_check.specs.Table.{Labels, label_at, AreLabels}

-- labels stay labels
pub labels_insert : (table : Labels) (fpr : Fpr) (label : ℕ) → AreLabels table → (0 < label) × (label ≤ 255)
    → AreLabels (insert_entry fpr_cmp table fpr label)
labels_insert [] fpr label all p = (p, tt)
labels_insert (e ∷ es) fpr label all p =
    elim (fpr_cmp fpr e.0) as
    (λ (o : Ordering). AreLabels
    (match_ordering o ((fpr, label) ∷ e ∷ es) ((e.0, label) ∷ es) (e ∷ insert_entry fpr_cmp es fpr label))) [
      | Less ↦ (p, all)
      | Equal ↦ (p, all.1)
      | Greater ↦ (all.0, labels_insert es fpr label all.1 p)
    ]

pub all_has : {X : Type 0} (P : X → Type 0) (xs : List X) (x : X) → AllByRecursion P xs → Has xs x → P x
all_has P [] x all h = absurd h
all_has P (y ∷ xs) x all (inl e) = subst P (sym e) all.0
all_has P (y ∷ xs) x all (inr h) = all_has P xs x all.1 h

-- what a look-up finds is an entry
pub lookup_has : (table : Labels) (fpr : Fpr) (label : ℕ) → label_at table fpr ≡ Some label → Has table (fpr, label)
lookup_has [] fpr label e = absurd cc
lookup_has (x ∷ table) fpr label e = by (lookup_has table fpr label) (same_fpr fpr x.0) refl e
  where
    by : (label_at table fpr ≡ Some label → Has table (fpr, label)) → (b : Bool) → same_fpr fpr x.0 ≡ b
        → cond b (Some x.1) (label_at table fpr) ≡ Some label → ((fpr, label) ≡ x) ⊎ Has table (fpr, label)
    by ih true f g = let v : x.1 ≡ label = cc in let k = same_fpr-true fpr x.0 f in inl (λ i. (k i, sym v i))
    by ih false f g = inr (ih g)

has_key : (table : Labels) (entry : Fpr × ℕ) → Has table entry → Has (keys_of table) entry.0
has_key [] entry h = absurd h
has_key (x ∷ table) entry (inl e) = inl (ap (λ (z : Fpr × ℕ). z.0) e)
has_key (x ∷ table) entry (inr h) = inr (has_key table entry h)

-- an entry of a table is what the look-up finds
pub has_lookup : (table : Labels) → IsStrictlySortedBy fpr_cmp (keys_of table) → (fpr : Fpr) (label : ℕ)
    → Has table (fpr, label) → label_at table fpr ≡ Some label
unfolding IsStrictlySortedBy
has_lookup [] s fpr label h = absurd h
has_lookup (x ∷ table) s fpr label (inl e) =
    let k : same_fpr fpr x.0 ≡ true =
    subst (λ (f : Fpr). same_fpr fpr f ≡ true) (ap (λ (z : Fpr × ℕ). z.0) e) (same_fpr-refl fpr) in
    ap (λ (b : Bool). cond b (Some x.1) (label_at table fpr)) k ∙ ap (λ (z : Fpr × ℕ). Some z.1) (sym e)
has_lookup (x ∷ table) s fpr label (inr h) =
    let less : fpr_cmp x.0 fpr ≡ Less =
    all_has (λ (k : Fpr). fpr_cmp x.0 k ≡ Less) (keys_of table) fpr s.0 (has_key table (fpr, label) h) in
    ap (λ (b : Bool). cond b (Some x.1) (label_at table fpr)) (apart less) ∙ has_lookup table s.1 fpr label h
  where
    apart : fpr_cmp x.0 fpr ≡ Less → same_fpr fpr x.0 ≡ false
    apart less = by (same_fpr fpr x.0) refl
      where
        by : (b : Bool) → same_fpr fpr x.0 ≡ b → b ≡ false
        by false f = refl
        by true f =
            let k = same_fpr-true fpr x.0 f in
            let t : fpr_cmp x.0 fpr ≡ Equal =
            subst (λ (z : Fpr). fpr_cmp z fpr ≡ Equal) k (tied_itself fpr_total fpr) in
            let clash : Less ≡ Equal = sym less ∙ t in absurd cc

pub label_small : (table : Labels) → AreLabels table → (fpr : Fpr) (label : ℕ) → label_at table fpr ≡ Some label
    → (0 < label) × (label ≤ 255)
label_small table all fpr label e =
    all_has (λ (entry : Fpr × ℕ). (0 < entry.1) × (entry.1 ≤ 255)) table (fpr, label) all (lookup_has table fpr label e)
