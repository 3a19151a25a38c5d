-- How views develop: each changed view gets a revision, and a closed view is no longer open.
use Rattle.std.proofs.Common.{◌≡◌, inl, inr, ℕ, ◌+◌, Bool, true, false, cond, List, [], ◌∷◌, Option, Some, None, refl}
use Rattle.std.proofs.Common.{sym, ap, ◌∙◌, arith}
use Rattle.std.specs.declared.cmp.Ordering.{Ordering}
use Rattle.std.specs.declared.cmp.Ordering.TheVariants.{Less, Equal, Greater}
use Rattle.std.specs.BTreeMap.{insert_entry}
use Rattle.std.specs.Map.{lookup, set_value}
use Rattle.std.specs.Ordering.{is_eq, match_ordering, ordering_reverse}
use Rattle.std.proofs.lemmas.Cmp.{nat_list_cmp_total}
use Rattle.wot_types.specs.declared.fpr.Fpr.{Fpr}
use Rattle.wot_types.specs.ViewName.{view_name_cmp}
use Rattle.wot_cache.specs.declared.view.View.{View}
use Rattle.wot_cache.specs.Basis.{AreViewsOn, IsSameOrClosed, OtherViewsStay}
use Rattle.wot_cache.specs.Revisions.{IsOneClosing, IsOneRevision, Revisions}
use Rattle.wot_cache.specs.Views.{Views, is_name, rooted, timed, view_at, with_amount, with_root, with_time}
use Rattle.wot_cache.proofs.OpenViewsMarks.{equal_if, found_by}

-- ---- other names

-- whether two names are equal doesn't depend on their order
turned_about : (a b : List ℕ) → is_name a b ≡ is_name b a
turned_about a b = ap is_eq (nat_list_cmp_total.antisymm a b) ∙ about (view_name_cmp b a)
  where
    about : (o : Ordering) → is_eq (ordering_reverse o) ≡ is_eq o
    about Less = refl
    about Equal = refl
    about Greater = refl

-- a key with this name differs from every other name
apart_from : (name other key : List ℕ) → is_name name other ≡ false → view_name_cmp name key ≡ Equal →
    is_name other key ≡ false
apart_from name other key apart same =
    turned_about other key ∙ ap is_eq (sym (nat_list_cmp_total.congr name key other same)) ∙ apart

-- an entry with another name is skipped
passed : {X : Type 0} (b : Bool) (v w : X) (o : Option X) → b ≡ false → cond b (Some v) o ≡ cond b (Some w) o
passed true v w o e = absurd cc
passed false v w o e = refl

passed_by : {X : Type 0} (b : Bool) (v : X) (o : Option X) → b ≡ false → cond b (Some v) o ≡ o
passed_by true v o e = absurd cc
passed_by false v o e = refl

module _ {X : Type 0} (name other : List ℕ) (apart : is_name name other ≡ false) where
  others_put : (es : List (List ℕ × X)) (v : X) → lookup (is_name other) (insert_entry view_name_cmp es name v) ≡ lookup
      (is_name other) es
  others_put [] v = passed_by (is_name other name) v None (turned_about other name ∙ apart)
  others_put (e ∷ es) v = by (others_put es v) (view_name_cmp name e.0) refl
    where
      by : lookup (is_name other) (insert_entry view_name_cmp es name v) ≡ lookup (is_name other) es → (o : Ordering) →
          view_name_cmp name e.0 ≡ o
          → lookup (is_name other) (match_ordering o ((name, v) ∷ e ∷ es) ((e.0, v) ∷ es)
          (e ∷ insert_entry view_name_cmp es name v)) ≡ lookup (is_name other) (e ∷ es)
      by rest Less h = passed_by (is_name other name) v (lookup (is_name other) (e ∷ es)) (turned_about other name
          ∙ apart)
      by rest Equal h = passed (is_name other e.0) v e.1 (lookup (is_name other) es) (apart_from name other e.0 apart h)
      by rest Greater h = ap (cond (is_name other e.0) (Some e.1)) rest

  others_set : (es : List (List ℕ × X)) (v : X) → lookup (is_name other) (set_value (is_name name) es v) ≡ lookup
      (is_name other) es
  others_set [] v = refl
  others_set (e ∷ es) v = by (others_set es v) (is_name name e.0) refl
    where
      by : lookup (is_name other) (set_value (is_name name) es v) ≡ lookup (is_name other) es → (b : Bool) →
          is_name name e.0 ≡ b
          → lookup (is_name other) (cond b ((e.0, v) ∷ es) (e ∷ set_value (is_name name) es v)) ≡ lookup (is_name other)
          (e ∷ es)
      by rest true h = passed (is_name other e.0) v e.1 (lookup (is_name other) es)
          (apart_from name other e.0 apart (equal_if (view_name_cmp name e.0) h))
      by rest false h = ap (cond (is_name other e.0) (Some e.1)) rest

pub timed_others : (name : List ℕ) (views : Views) (t : ℕ) → OtherViewsStay name views (with_time views name t)
timed_others name views t other apart = by (view_at views name)
  where
    by : (o : Option View) → view_at (timed views name t o) other ≡ view_at views other
    by None = others_put name other apart views (record { time = t; roots = [] })
    by (Some v) = others_set name other apart views (record v { time = t })

pub rooted_others : (name : List ℕ) (views : Views) (fpr : Fpr) (amount : ℕ) →
    OtherViewsStay name views (with_root views name fpr amount)
rooted_others name views fpr amount other apart = by (view_at views name)
  where
    by : (o : Option View) → view_at (rooted views name fpr amount o) other ≡ view_at views other
    by None = refl
    by (Some v) = others_set name other apart views (record v { roots = with_amount v.roots fpr amount })

-- ---- revisions

module _ (name : List ℕ) (old new : Views) (before after : Revisions) (others : OtherViewsStay name old new) where
  -- if the named view is unchanged, all views are
  all_same : view_at new name ≡ view_at old name → (other : List ℕ) → view_at new other ≡ view_at old other
  all_same same other = by (is_name name other) refl
    where
      by : (b : Bool) → is_name name other ≡ b → view_at new other ≡ view_at old other
      by true e = sym (found_by name other new e) ∙ same ∙ found_by name other old e
      by false e = others other e

  still : view_at new name ≡ view_at old name → after ≡ before → AreViewsOn old before new after
  still same none = record {
    counted = let e : after.count ≡ before.count = ap (λ (t : Revisions). t.count) none in omega (arith, e);
    each = λ e other. inl (all_same same other);
  }

  pub turned_on : IsOneRevision name old before new after → AreViewsOn old before new after
  turned_on (inl same) = still same.0 same.1
  turned_on (inr more) =
      let one : after.count ≡ before.count + 1 = ap (λ (t : Revisions). t.count) more.1 in
      record { counted = omega (arith, one); each = λ e other. absurd (omega (arith, one, e)) }

  pub closed_on : view_at new name ≡ None → IsOneClosing name old before new after → AreViewsOn old before new after
  closed_on gone (inl same) = still same.0 same.1
  closed_on gone (inr closed) =
      let same : after.count ≡ before.count = ap (λ (t : Revisions). t.count) closed.1 in
      record { counted = omega (arith, same); each = λ e other. by other (is_name name other) refl }
    where
      by : (other : List ℕ) (b : Bool) → is_name name other ≡ b → IsSameOrClosed (view_at old other) (view_at new other)
      by other true e = inr (sym (found_by name other new e) ∙ gone)
      by other false e = inl (others other e)
