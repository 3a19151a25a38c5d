-- Marking what is new keeps what is true of a list.
use Rattle.std.proofs.Common.{◌≡◌, ℕ, List, [], ◌∷◌, Some, None, refl, sym, ◌∙◌, subst}
use Rattle.std.specs.declared.cmp.Ordering.{Ordering}
use Rattle.std.specs.List.{AllByRecursion}
use Rattle.wot_policy.specs.declared.rows.PolicyRows.{PolicyRows}
use Rattle.wot_component.specs.Ranked.{IsBelow, IsRising}
use Rattle.wot_component.specs.Certificate.{Signature, Component, Certificate, sig_cmp, part_cmp, on_key, on_user_id}
use Rattle.wot_component.specs.Certificate.{on_attribute, on_subkey}
use Rattle.wot_component.specs.Judged.{judged_sig}
use Rattle.wot_component.specs.New.{met, marked_on, marked_new, stays, judged_sigs, judged_part, judged_parts}
use Rattle.wot_component.specs.Whole.{IsSigAt, AreSigsAt, IsPartOf, ArePartsOf, IsCertificate}

module _ {A : Type 0} (R : A → A → Ordering) (both : A → A → A) (only : A → A)
    (both_right : (w x y : A) → R w (both x y) ≡ R w y) (both_left : (x y w : A) → R (both x y) w ≡ R y w)
    (only_right : (w y : A) → R w (only y) ≡ R w y) (only_left : (y w : A) → R (only y) w ≡ R y w) where
  marked_below : (w : A) (ys old : List A) → IsBelow R w ys → IsBelow R w (marked_new R both only ys old)
  marked_below w [] old h = tt
  marked_below w (y ∷ ys) old h =
      elim (met R y old) as (λ found. IsBelow R w (marked_on both only found y old (marked_new R both only ys))) [
        | Some f ↦ (both_right w f.0 y ∙ h.0, marked_below w ys f.1 h.1)
        | None ↦ (only_right w y ∙ h.0, marked_below w ys old h.1)
      ]

  first_as : (v y : A) (ys : List A) → ((w : A) → R v w ≡ R y w) → IsBelow R y ys → IsBelow R v ys
  first_as v y [] e h = tt
  first_as v y (z ∷ ys) e h = (e z ∙ h.0, first_as v y ys e h.1)

  pub marked_rising : (ys old : List A) → IsRising R ys → IsRising R (marked_new R both only ys old)
  marked_rising [] old h = tt
  marked_rising (y ∷ ys) old h =
      elim (met R y old) as (λ found. IsRising R (marked_on both only found y old (marked_new R both only ys))) [
        | Some f ↦ (first_as (both f.0 y) y _ (both_left f.0 y) (marked_below y ys f.1 h.0), marked_rising ys f.1 h.1)
        | None ↦ (first_as (only y) y _ (only_left y) (marked_below y ys old h.0), marked_rising ys old h.1)
      ]

module _ {A : Type 0} (R : A → A → Ordering) (both : A → A → A) (only : A → A) (P : A → Type 0)
    (both_keeps : (x y : A) → P y → P (both x y)) (only_keeps : (y : A) → P y → P (only y)) where
  pub marked_all : (ys old : List A) → AllByRecursion P ys → AllByRecursion P (marked_new R both only ys old)
  marked_all [] old h = tt
  marked_all (y ∷ ys) old h =
      elim (met R y old) as (λ found. AllByRecursion P (marked_on both only found y old (marked_new R both only ys))) [
        | Some f ↦ (both_keeps f.0 y h.0, marked_all ys f.1 h.1)
        | None ↦ (only_keeps y h.0, marked_all ys old h.1)
      ]

pub judged_rising : (rows : PolicyRows) (ys old : List Signature) → IsRising sig_cmp ys
    → IsRising sig_cmp (judged_sigs rows ys old)
judged_rising rows ys old h =
    marked_rising sig_cmp stays (judged_sig rows) (λ w x y. refl) (λ x y w. refl) (λ w y. refl) (λ y w. refl) ys old h

judged_at : (rows : PolicyRows) (key : List ℕ) (kind : ℕ) (component : List ℕ) (ys old : List Signature)
    → AreSigsAt key kind component ys → AreSigsAt key kind component (judged_sigs rows ys old)
judged_at rows key kind component ys old h = (
  judged_rising rows ys old h.0,
  marked_all sig_cmp stays (judged_sig rows) (IsSigAt key kind component) (λ x y p. p) (λ y p. p) ys old h.1,
)

part_keeps : (rows : PolicyRows) (key : List ℕ) (kind : ℕ) (old : List Signature) (y : Component) → IsPartOf key kind y
    → IsPartOf key kind (judged_part rows old y)
part_keeps rows key kind old y p = (p.0, judged_at rows key kind y.body y.sigs old p.1)

judged_of : (rows : PolicyRows) (key : List ℕ) (kind : ℕ) (ys old : List Component) → ArePartsOf key kind ys
    → ArePartsOf key kind (judged_parts rows ys old)
judged_of rows key kind ys old h =
    let both : Component → Component → Component = λ x y. judged_part rows x.sigs y in
    let only : Component → Component = judged_part rows [] in (
      marked_rising part_cmp both only (λ w x y. refl) (λ x y w. refl) (λ w y. refl) (λ y w. refl) ys old h.0,
      marked_all part_cmp both only (IsPartOf key kind) (λ x y p. part_keeps rows key kind x.sigs y p)
          (λ y p. part_keeps rows key kind [] y p) ys old h.1,
    )

-- lists of which each was judged by rows, next to old ones
pub lists_whole : (r1 r2 r3 r4 : PolicyRows) (o1 : List Signature) (o2 o3 o4 : List Component) (c : Certificate)
    (d : List Signature) (u t s : List Component)
    → d ≡ judged_sigs r1 c.direct o1 → u ≡ judged_parts r2 c.user_ids o2 → t ≡ judged_parts r3 c.attributes o3
    → s ≡ judged_parts r4 c.subkeys o4
    → IsCertificate c → IsCertificate (record { key = c.key; direct = d; user_ids = u; attributes = t; subkeys = s })
lists_whole r1 r2 r3 r4 o1 o2 o3 o4 c d u t s ed eu et es h =
    let Sigs : List Signature → Type 0 = AreSigsAt c.key on_key [] in
    let Parts : ℕ → List Component → Type 0 = ArePartsOf c.key in
    record {
      readable = h.readable;
      direct = subst Sigs (sym ed) (judged_at r1 c.key on_key [] c.direct o1 h.direct);
      user_ids = subst (Parts on_user_id) (sym eu) (judged_of r2 c.key on_user_id c.user_ids o2 h.user_ids);
      attributes = subst (Parts on_attribute) (sym et) (judged_of r3 c.key on_attribute c.attributes o3 h.attributes);
      subkeys = subst (Parts on_subkey) (sym es) (judged_of r4 c.key on_subkey c.subkeys o4 h.subkeys);
    }
