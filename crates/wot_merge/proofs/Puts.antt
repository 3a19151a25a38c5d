-- Two insertions, in either order, and the same insertion twice.
use Rattle.std.proofs.Common.{◌≡◌, List, [], ◌∷◌, sym, ap, ◌∙◌, refl}
use Rattle.std.specs.declared.cmp.Ordering.TheVariants.{Less, Equal, Greater}
use Rattle.std.specs.Ordering.{match_ordering, ordering_reverse}
use Rattle.std.specs.BTreeMap.{insert_entry}
use Rattle.std.proofs.lemmas.Cmp.{tied_itself}
use Rattle.wot_types.specs.declared.fpr.Fpr.{Fpr}
use Rattle.wot_types.specs.Fpr.{fpr_cmp}
use Rattle.wot_types.specs.FprLaws.{fpr_total, fpr_exact}

greater : (f g : Fpr) → fpr_cmp f g ≡ Less → fpr_cmp g f ≡ Greater
greater f g less = fpr_total.antisymm g f ∙ ap ordering_reverse less

module _ {V : Type 0} where
  abbrev put_into : List (Fpr × V) → Fpr → V → List (Fpr × V)
  put_into es f x = insert_entry fpr_cmp es f x

  in_front : (e : Fpr × V) (es : List (Fpr × V)) (f : Fpr) (x : V) → fpr_cmp f e.0 ≡ Less →
      put_into (e ∷ es) f x ≡ (f, x) ∷ e ∷ es
  in_front e es f x h = ap (λ r. match_ordering r ((f, x) ∷ e ∷ es) ((e.0, x) ∷ es) (e ∷ put_into es f x)) h

  in_place : (e : Fpr × V) (es : List (Fpr × V)) (f : Fpr) (x : V) → fpr_cmp f e.0 ≡ Equal →
      put_into (e ∷ es) f x ≡ (e.0, x) ∷ es
  in_place e es f x h = ap (λ r. match_ordering r ((f, x) ∷ e ∷ es) ((e.0, x) ∷ es) (e ∷ put_into es f x)) h

  behind : (e : Fpr × V) (es : List (Fpr × V)) (f : Fpr) (x : V) → fpr_cmp f e.0 ≡ Greater →
      put_into (e ∷ es) f x ≡ e ∷ put_into es f x
  behind e es f x h = ap (λ r. match_ordering r ((f, x) ∷ e ∷ es) ((e.0, x) ∷ es) (e ∷ put_into es f x)) h

  -- the lower one comes first
  lowest : (e : Fpr × V) (es : List (Fpr × V)) (f g : Fpr) (x y : V) → fpr_cmp f g ≡ Less → fpr_cmp f e.0 ≡ Less →
      put_into (put_into (e ∷ es) g y) f x ≡ (f, x) ∷ put_into (e ∷ es) g y
  lowest e es f g x y less under =
      elim (fpr_cmp g e.0) as (λ r. put_into (match_ordering r ((g, y) ∷ e ∷ es) ((e.0, y) ∷ es) (e ∷ put_into es g y))
      f x ≡ (f, x) ∷ match_ordering r ((g, y) ∷ e ∷ es) ((e.0, y) ∷ es) (e ∷ put_into es g y)) [
        | Less ↦ in_front (g, y) (e ∷ es) f x less
        | Equal ↦ in_front (e.0, y) es f x under
        | Greater ↦ in_front e (put_into es g y) f x under
      ]

  rising : (es : List (Fpr × V)) (f g : Fpr) (x y : V) → fpr_cmp f g ≡ Less → put_into (put_into es f x) g y ≡ put_into
      (put_into es g y) f x
  rising [] f g x y less = behind (f, x) [] g y (greater f g less) ∙ sym (in_front (g, y) [] f x less)
  rising (e ∷ es) f g x y less =
      (elim (fpr_cmp f e.0) as (λ r. fpr_cmp f e.0 ≡ r → put_into (put_into (e ∷ es) f x) g y ≡ put_into
      (put_into (e ∷ es) g y) f x) [
        | Less ↦ λ h.
            ap (λ (z : List (Fpr × V)). put_into z g y) (in_front e es f x h)
            ∙ behind (f, x) (e ∷ es) g y (greater f g less)
            ∙ sym (lowest e es f g x y less h)
        | Equal ↦ λ h.
            let above : fpr_cmp g e.0 ≡ Greater = ap (fpr_cmp g) (sym (fpr_exact f e.0 h)) ∙ greater f g less in
            ap (λ (z : List (Fpr × V)). put_into z g y) (in_place e es f x h)
            ∙ behind (e.0, x) es g y above
            ∙ sym (ap (λ (z : List (Fpr × V)). put_into z f x) (behind e es g y above)
            ∙ in_place e (put_into es g y) f x h)
        | Greater ↦ λ h.
            let under : fpr_cmp e.0 f ≡ Less = fpr_total.antisymm e.0 f ∙ ap ordering_reverse h in
            let above : fpr_cmp g e.0 ≡ Greater = greater e.0 g (fpr_total.trans e.0 f g under less) in
            ap (λ (z : List (Fpr × V)). put_into z g y) (behind e es f x h)
            ∙ behind e (put_into es f x) g y above
            ∙ ap (λ (z : List (Fpr × V)). e ∷ z) (rising es f g x y less)
            ∙ sym (ap (λ (z : List (Fpr × V)). put_into z f x) (behind e es g y above)
            ∙ behind e (put_into es g y) f x h)
      ]) refl

  pub either_order : (es : List (Fpr × V)) (f g : Fpr) (x y : V) → (f ≡ g → ⊥) →
      put_into (put_into es f x) g y ≡ put_into (put_into es g y) f x
  either_order es f g x y apart =
      (elim (fpr_cmp f g) as (λ r. fpr_cmp f g ≡ r → put_into (put_into es f x) g y ≡ put_into (put_into es g y) f x) [
        | Less ↦ λ h. rising es f g x y h
        | Equal ↦ λ h. absurd (apart (fpr_exact f g h))
        | Greater ↦ λ h. sym (rising es g f y x (fpr_total.antisymm g f ∙ ap ordering_reverse h))
      ]) refl

  pub put_twice : (es : List (Fpr × V)) (f : Fpr) (x y : V) → put_into (put_into es f x) f y ≡ put_into es f y
  put_twice [] f x y = in_place (f, x) [] f y (tied_itself fpr_total f)
  put_twice (e ∷ es) f x y =
      (elim (fpr_cmp f e.0) as (λ r. fpr_cmp f e.0 ≡ r → put_into (put_into (e ∷ es) f x) f y ≡ put_into (e ∷ es) f y) [
        | Less ↦ λ h. ap (λ (z : List (Fpr × V)). put_into z f y) (in_front e es f x h) ∙ in_place (f, x) (e ∷ es) f y
            (tied_itself fpr_total f) ∙ sym (in_front e es f y h)
        | Equal ↦ λ h. ap (λ (z : List (Fpr × V)). put_into z f y) (in_place e es f x h) ∙ in_place (e.0, x) es f y h
            ∙ sym (in_place e es f y h)
        | Greater ↦ λ h. ap (λ (z : List (Fpr × V)). put_into z f y) (behind e es f x h)
            ∙ behind e (put_into es f x) f y h ∙ ap (λ (z : List (Fpr × V)). e ∷ z) (put_twice es f x y)
            ∙ sym (behind e es f y h)
      ]) refl
