-- A table of reach in the making: its fingerprints, one after the other.
use Rattle.std.proofs.Common.{◌≡◌, ◌⊎◌, inl, inr, ℕ, ◌+◌, ◌<◌, ◌≤◌, Bool, true, false, cond, Ordering, Less, Equal}
use Rattle.std.proofs.Common.{Greater, List, [], ◌∷◌, length, get_or, drop, Some, None, refl, sym, subst, ◌∙◌}
use Rattle.std.specs.Map.{lookup}
use Rattle.std.specs.Ordering.{match_ordering}
use Rattle.std.specs.BTreeMap.{insert_entry, is_at}
use Rattle.std.proofs.lemmas.List.{drop_more, drop_all}
use Rattle.wot_types.specs.declared.fpr.Fpr.{Fpr}
use Rattle.wot_types.specs.Fpr.{fpr_cmp}
use Rattle.wot_types.specs.FprLaws.{same_fpr-true}
use Rattle.wot_edge.specs.Record.{Record, Has}
use Rattle.wot_reach.specs.Making.{AreKeysOf, HaveEnoughBut}
use Rattle.wot_reach.specs.Reach.{HasEnough, HaveEnough, number_of}
use Rattle.wot_reach.proofs.Enough.{absent_enough}

-- ---- keys

pub keys_inserted : (cmp : Fpr → Fpr → Ordering) (fprs : List Fpr) (es : List (Fpr × ℕ)) (k : Fpr) (n : ℕ)
    → AreKeysOf fprs es → Has fprs k → AreKeysOf fprs (insert_entry cmp es k n)
keys_inserted cmp fprs [] k n all has = (has, tt)
keys_inserted cmp fprs (e ∷ es) k n all has =
    elim (cmp k e.0) as
    (λ o. AreKeysOf fprs (match_ordering o ((k, n) ∷ e ∷ es) ((e.0, n) ∷ es) (e ∷ insert_entry cmp es k n))) [
      | Less ↦ (has, all)
      | Equal ↦ all
      | Greater ↦ (all.0, keys_inserted cmp fprs es k n all.1 has)
    ]

-- a fingerprint that is no key has no number
key_or_none : (fprs : List Fpr) (es : List (Fpr × ℕ)) (fpr : Fpr) → AreKeysOf fprs es
    → (lookup (is_at (fpr_cmp fpr)) es ≡ None) ⊎ Has fprs fpr
key_or_none fprs [] fpr all = inl refl
key_or_none fprs (e ∷ es) fpr all = by (is_at (fpr_cmp fpr) e.0) refl (key_or_none fprs es fpr all.1)
  where
    by : (b : Bool) → is_at (fpr_cmp fpr) e.0 ≡ b → (lookup (is_at (fpr_cmp fpr)) es ≡ None) ⊎ Has fprs fpr
        → (cond b (Some e.1) (lookup (is_at (fpr_cmp fpr)) es) ≡ None) ⊎ Has fprs fpr
    by true t rest = inr (subst (Has fprs) (sym (same_fpr-true fpr e.0 t)) all.0)
    by false t rest = rest

-- ---- the check

module _ (network : List ℕ → Record) (roots : List (Fpr × ℕ)) where
  pub none_checked : (numbers : List (Fpr × ℕ)) (fprs : List Fpr) → AreKeysOf fprs numbers
      → HaveEnoughBut network roots (number_of numbers) fprs
  none_checked numbers fprs keys fpr = elim (key_or_none fprs numbers fpr keys) [
    | inl none ↦ inl (absent_enough network roots numbers fpr none)
    | inr has ↦ inr has
  ]

  pub one_checked : (number : Fpr → ℕ) (fprs : List Fpr) (i : ℕ) (fpr : Fpr) → i < length fprs → fpr ≡ get_or fprs i fpr
      → HaveEnoughBut network roots number (drop i fprs)
      → HasEnough network roots number fpr → HaveEnoughBut network roots number (drop (i + 1) fprs)
  one_checked number fprs i fpr lt is but enough other = elim (but other) [
    | inl done ↦ inl done
    | inr there ↦ elim (subst (λ (xs : List Fpr). Has xs other) (drop_more fprs i fpr lt) there) [
      | inl f ↦ inl (subst (HasEnough network roots number) (is ∙ sym f) enough)
      | inr more ↦ inr more
    ]
  ]

  pub all_checked : (number : Fpr → ℕ) (fprs : List Fpr) (i : ℕ) → length fprs ≤ i
      → HaveEnoughBut network roots number (drop i fprs) → HaveEnough network roots number
  all_checked number fprs i le but fpr = elim (but fpr) [
    | inl done ↦ done
    | inr there ↦ absurd (subst (λ (xs : List Fpr). Has xs fpr) (drop_all i fprs le) there)
  ]
