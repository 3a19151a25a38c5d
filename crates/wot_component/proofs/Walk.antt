-- The walk over two lists of signatures in order.
use Rattle.std.proofs.Common.{◌≡◌, List, [], ◌∷◌, ◌++◌, refl, sym, ap, ◌∙◌, append_assoc, length}
use Rattle.std.proofs.lemmas.List.{nil_from_length}
use Rattle.std.specs.declared.cmp.Ordering.{Ordering}
use Rattle.std.specs.declared.cmp.Ordering.TheVariants.{Less, Equal, Greater}
use Rattle.std.specs.Cmp.{IsTotalOrder}
use Rattle.std.specs.Cmp.Lexicographic.{on_texts}
use Rattle.wot_component.specs.Certificate.{Signature, Component, unite_part, sig_cmp, part_cmp, kept}
use Rattle.wot_component.specs.Ranked.{united, IsRising}
use Rattle.wot_component.proofs.Rank.{less, equal, greater, only, united_rises}

-- What was written, and the merge of what is left, are the merge of all.
pub record Walk {A : Type 0} (R : A → A → Ordering) (join : A → A → A) (a b out left right : List A) : Type 0 where
  pub left_rises : IsRising R left
  pub right_rises : IsRising R right
  pub so_far : out ++ united R join left right ≡ united R join a b

pub sigs_total : IsTotalOrder sig_cmp
sigs_total = on_texts (λ (s : Signature). s.body)

pub kept_same : (x y : Signature) → sig_cmp x y ≡ Equal → (z : Signature) → sig_cmp z (kept x y) ≡ sig_cmp z x
kept_same x y e z = refl

module _ {A : Type 0} (R : A → A → Ordering) (join : A → A → A) (o : IsTotalOrder R)
    (same : (x y : A) → R x y ≡ Equal → (z : A) → R z (join x y) ≡ R z x) where
  abbrev W : List A → List A → List A → List A → List A → Type 0
  W = Walk R join

  pub begun : (a b out : List A) → IsRising R a → IsRising R b → out ≡ [] → W a b out a b
  begun a b out h k e =
      record { left_rises = h; right_rises = k; so_far = ap (λ (z : List A). z ++ united R join a b) e }

  pub step_less : (a b out left right : List A) (x : A) (xs : List A) (y : A) (ys out' : List A) → W a b out left right
      → left ≡ x ∷ xs → right ≡ y ∷ ys → R x y ≡ Less → out' ≡ out ++ x ∷ [] → W a b out' xs right
  step_less a b out left right x xs y ys out' w l r h e =
      let lr : IsRising R (x ∷ xs) = rw l at w.left_rises in
      let rr : IsRising R (y ∷ ys) = rw r at w.right_rises in
      let u : united R join left right ≡ x ∷ united R join xs right = rw (l, r) (less R join o same x xs y ys rr h) in
      record {
        left_rises = lr.1;
        right_rises = w.right_rises;
        so_far = ap (λ (z : List A). z ++ united R join xs right) e ∙ append_assoc out (x ∷ []) (united R join xs right)
            ∙ ap (λ (z : List A). out ++ z) (sym u) ∙ w.so_far;
      }

  pub step_equal : (a b out left right : List A) (x : A) (xs : List A) (y : A) (ys out' : List A) → W a b out left right
      → left ≡ x ∷ xs → right ≡ y ∷ ys → R x y ≡ Equal → out' ≡ out ++ join x y ∷ [] → W a b out' xs ys
  step_equal a b out left right x xs y ys out' w l r h e =
      let lr : IsRising R (x ∷ xs) = rw l at w.left_rises in
      let rr : IsRising R (y ∷ ys) = rw r at w.right_rises in
      let u : united R join left right ≡ join x y ∷ united R join xs ys =
      rw (l, r) (equal R join o same x xs y ys rr h) in
      record {
        left_rises = lr.1;
        right_rises = rr.1;
        so_far = ap (λ (z : List A). z ++ united R join xs ys) e
            ∙ append_assoc out (join x y ∷ []) (united R join xs ys) ∙ ap (λ (z : List A). out ++ z) (sym u) ∙ w.so_far;
      }

  pub step_greater : (a b out left right : List A) (x : A) (xs : List A) (y : A) (ys out' : List A)
      → W a b out left right → left ≡ x ∷ xs → right ≡ y ∷ ys → R x y ≡ Greater → out' ≡ out ++ y ∷ []
      → W a b out' left ys
  step_greater a b out left right x xs y ys out' w l r h e =
      let lr : IsRising R (x ∷ xs) = rw l at w.left_rises in
      let rr : IsRising R (y ∷ ys) = rw r at w.right_rises in
      let u : united R join left right ≡ y ∷ united R join left ys =
      rw (l, r) (greater R join o same x xs y ys lr rr h) in
      record {
        left_rises = w.left_rises;
        right_rises = rr.1;
        so_far = ap (λ (z : List A). z ++ united R join left ys) e ∙ append_assoc out (y ∷ []) (united R join left ys)
            ∙ ap (λ (z : List A). out ++ z) (sym u) ∙ w.so_far;
      }

  pub end_left : (a b out left right out' : List A) → W a b out left right → length right ≡ 0 → out' ≡ out ++ left
      → out' ≡ united R join a b
  end_left a b out left right out' w n e =
      let r : right ≡ [] = nil_from_length right n in
      e ∙ ap (λ (z : List A). out ++ united R join left z) (sym r) ∙ w.so_far

  pub end_right : (a b out left right out' : List A) → W a b out left right → length left ≡ 0 → out' ≡ out ++ right
      → out' ≡ united R join a b
  end_right a b out left right out' w n e =
      let l : left ≡ [] = nil_from_length left n in
      let u : united R join left right ≡ right = rw l (only R join o same right w.right_rises) in
      e ∙ ap (λ (z : List A). out ++ z) (sym u) ∙ w.so_far

  pub rises : (a b out' : List A) → out' ≡ united R join a b → IsRising R a → IsRising R out'
  rises a b out' e h = rw e (united_rises R join o same a b h)

pub parts_total : IsTotalOrder part_cmp
parts_total = on_texts (λ (p : Component). p.body)

pub parts_same : (x y : Component) → part_cmp x y ≡ Equal → (z : Component) → part_cmp z (unite_part x y) ≡ part_cmp z x
parts_same x y e z = refl
