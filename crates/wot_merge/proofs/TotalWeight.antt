-- The total weight of the values of entries after an insertion.
use Rattle.std.proofs.Common.{◌≡◌, ℕ, ◌+◌, ◌≤◌, Bool, true, false, cond, List, [], ◌∷◌, length, Option, Some, None}
use Rattle.std.proofs.Common.{refl, sym, ap, ◌∙◌, arith}
use Rattle.std.specs.declared.cmp.Ordering.{Ordering}
use Rattle.std.specs.declared.cmp.Ordering.TheVariants.{Less, Equal, Greater}
use Rattle.std.specs.Ordering.{is_eq, match_ordering}
use Rattle.std.specs.Cmp.{IsTotalOrder}
use Rattle.std.specs.BTreeMap.{insert_entry, is_at}
use Rattle.std.specs.List.Sorted.{IsStrictlySortedBy}
use Rattle.std.specs.Map.{lookup, remove_entry, keys_of}
use Rattle.std.proofs.lemmas.Map.{lookup-none}
use Rattle.std.proofs.lemmas.Map.Entries.{none_below_head}
use Rattle.std.proofs.lemmas.Map.Keys.{sorted_tail}
use Rattle.wot_component.specs.Counts.{sum_of}

-- what is found weighs
abbrev pub found_weight : {X : Type 0} → (X → ℕ) → Option X → ℕ
found_weight weight None = 0
found_weight weight (Some x) = weight x

in_front : (v e s : ℕ) → (v + (e + s)) + 0 ≡ (e + s) + v
in_front v e s = omega arith

in_place : (v e s : ℕ) → (v + s) + e ≡ (e + s) + v
in_place v e s = omega arith

behind : (v e s r f : ℕ) → r + f ≡ s + v → (e + r) + f ≡ (e + s) + v
behind v e s r f h = omega arith

module _ {K X : Type 0} (R : K → K → Ordering) (o : IsTotalOrder R) where
  abbrev pub all_weigh : (X → ℕ) → List (K × X) → ℕ
  all_weigh weight es = sum_of (λ (e : K × X). weight e.1) es

  -- The weight of the new one replaces that of what was found.
  pub insert_weighs : (weight : X → ℕ) (k : K) (v : X) (es : List (K × X)) → IsStrictlySortedBy R (keys_of es)
      → all_weigh weight (insert_entry R es k v) + found_weight weight (lookup (is_at (R k)) es) ≡ all_weigh weight
      es + weight v
  insert_weighs weight k v [] sorted = omega arith
  insert_weighs weight k v (e ∷ es) sorted =
      elim (R k e.0) as (λ r. R k e.0 ≡ r →
      all_weigh weight (match_ordering r ((k, v) ∷ e ∷ es) ((e.0, v) ∷ es)
      (e ∷ insert_entry R es k v)) + found_weight weight
      (cond (is_eq r) (Some e.1) (lookup (is_at (R k)) es)) ≡ (weight e.1 + all_weigh weight es) + weight v) [
        | Less ↦ λ less.
            let absent : lookup (is_at (R k)) (e ∷ es) ≡ None =
            lookup-none (is_at (R k)) (e ∷ es) (none_below_head o k e es sorted less) in
            let behind_head : lookup (is_at (R k)) es ≡ None = tail_absent less absent in
            ap (λ f. (weight v + (weight e.1 + all_weigh weight es)) + found_weight weight f) behind_head
            ∙ in_front (weight v) (weight e.1) (all_weigh weight es)
        | Equal ↦ λ equal. in_place (weight v) (weight e.1) (all_weigh weight es)
        | Greater ↦ λ greater. behind (weight v) (weight e.1) (all_weigh weight es) _ _
            (insert_weighs weight k v es (sorted_tail R e.0 (keys_of es) sorted))
      ] refl
    where
      tail_absent : R k e.0 ≡ Less → lookup (is_at (R k)) (e ∷ es) ≡ None → lookup (is_at (R k)) es ≡ None
      tail_absent less absent =
          let miss : is_eq (R k e.0) ≡ false = ap is_eq less in
          sym (ap (λ b. cond b (Some e.1) (lookup (is_at (R k)) es)) miss) ∙ absent

pub ones : {K X : Type 0} (es : List (K × X)) → sum_of (λ (e : K × X). 1) es ≡ length es
ones [] = refl
ones (e ∷ es) = omega (arith, ones es)

pub removed_fewer : {K X : Type 0} (test : K → Bool) (es : List (K × X)) → length (remove_entry test es) ≤ length es
removed_fewer test [] = omega arith
removed_fewer test (e ∷ es) =
    elim (test e.0) as (λ b. length (cond b es (e ∷ remove_entry test es)) ≤ length (e ∷ es)) [
      | true ↦ omega arith
      | false ↦ omega (arith, removed_fewer test es)
    ]
