-- A merge of two certificates has what is in one of both.
use Rattle.std.proofs.Common.{◌≡◌, ◌⊎◌, ◌↔◌, inl, inr, ℕ, List, [], ◌∷◌, refl, sym, ◌∙◌}
use Rattle.std.specs.declared.cmp.Ordering.{Ordering}
use Rattle.std.specs.declared.cmp.Ordering.TheVariants.{Less, Equal, Greater}
use Rattle.wot_component.specs.Certificate.{Signature, Component, kept, part_cmp, sig_cmp, unite_part, unite_parts}
use Rattle.wot_component.specs.Certificate.{unite_sigs}
use Rattle.wot_component.specs.Ranked.{placed, put, united}
use Rattle.wot_component.proofs.Bodies.{bodies_equal}
use Rattle.wot_cert.specs.Both.{HasOne, HasPart, HasSig, HasSigOn}

-- the same thing said of either of two
abbrev Either : Type 0 → Type 0 → Type 0 → Type 0
Either whole first second = whole ↔ (first ⊎ second)

-- ---- lists

module _ {A : Type 0} (R : A → A → Ordering) (join : A → A → A) (P : A → Type 0)
    (joined : (x y : A) → R x y ≡ Equal → Either (P (join y x)) (P y) (P x)) where
  put_of_both : (x : A) (ys : List A) → Either (HasOne P (put R join x ys)) (P x) (HasOne P ys)
  put_of_both x [] = (λ h. h, λ h. h)
  put_of_both x (y ∷ ys) = by (put_of_both x ys) (R x y) refl
    where
      by : Either (HasOne P (put R join x ys)) (P x) (HasOne P ys) → (o : Ordering) → R x y ≡ o
          → Either (HasOne P (placed o join x y ys (put R join x ys))) (P x) (P y ⊎ HasOne P ys)
      by rest Less e = (λ h. h, λ h. h)
      by rest Equal e = (
        λ h. elim h [
          | inl p ↦ elim ((joined x y e).0 p) [ inl q ↦ inr (inl q) | inr q ↦ inl q ]
          | inr there ↦ inr (inr there)
        ],
        λ h. elim h [
          | inl p ↦ inl ((joined x y e).1 (inr p))
          | inr other ↦ elim other [ inl p ↦ inl ((joined x y e).1 (inl p)) | inr there ↦ inr there ]
        ],
      )
      by rest Greater e = (
        λ h. elim h [
          | inl p ↦ inr (inl p)
          | inr there ↦ elim (rest.0 there) [ inl q ↦ inl q | inr q ↦ inr (inr q) ]
        ],
        λ h. elim h [
          | inl p ↦ inr (rest.1 (inl p))
          | inr other ↦ elim other [ inl p ↦ inl p | inr there ↦ inr (rest.1 (inr there)) ]
        ],
      )

  of_both : (xs ys : List A) → Either (HasOne P (united R join xs ys)) (HasOne P xs) (HasOne P ys)
  of_both xs [] = (λ there. inl there, λ h. elim h [ inl there ↦ there | inr never ↦ absurd never ])
  of_both xs (y ∷ ys) =
      let first = put_of_both y (united R join xs ys) in
      let rest = of_both xs ys in (
        λ h. elim (first.0 h) [
          | inl p ↦ inr (inl p)
          | inr there ↦ elim (rest.0 there) [ inl q ↦ inl q | inr q ↦ inr (inr q) ]
        ],
        λ h. elim h [
          | inl there ↦ first.1 (inr (rest.1 (inl there)))
          | inr other ↦ elim other [ inl p ↦ first.1 (inl p) | inr there ↦ first.1 (inr (rest.1 (inr there))) ]
        ],
      )

-- ---- signatures and components

body_joined : (body first second : List ℕ) → first ≡ second
    → Either (second ≡ body) (second ≡ body) (first ≡ body)
body_joined body first second e = (λ is. inl is, λ h. elim h [ inl is ↦ is | inr is ↦ sym e ∙ is ])

pub sigs_of_both : (body : List ℕ) (a b : List Signature)
    → Either (HasSig body (unite_sigs a b)) (HasSig body a) (HasSig body b)
sigs_of_both body a b = of_both sig_cmp kept (λ (s : Signature). s.body ≡ body)
    (λ x y e. body_joined body x.body y.body (bodies_equal x.body y.body e)) a b

pub parts_of_both : (body : List ℕ) (a b : List Component)
    → Either (HasPart body (unite_parts a b)) (HasPart body a) (HasPart body b)
parts_of_both body a b = of_both part_cmp unite_part (λ (p : Component). p.body ≡ body)
    (λ x y e. body_joined body x.body y.body (bodies_equal x.body y.body e)) a b

abbrev Signs : List ℕ → List ℕ → Component → Type 0
Signs component body p = (p.body ≡ component) × HasSig body p.sigs

signed_joined : (component body : List ℕ) (x y : Component) → part_cmp x y ≡ Equal
    → Either (Signs component body (unite_part y x)) (Signs component body y) (Signs component body x)
signed_joined component body x y e =
    let same : x.body ≡ y.body = bodies_equal x.body y.body e in (
      λ signs. elim ((sigs_of_both body y.sigs x.sigs).0 signs.1) [
        | inl there ↦ inl (signs.0, there)
        | inr there ↦ inr (same ∙ signs.0, there)
      ],
      λ signs. elim signs [
        | inl there ↦ (there.0, (sigs_of_both body y.sigs x.sigs).1 (inl there.1))
        | inr there ↦ (sym same ∙ there.0, (sigs_of_both body y.sigs x.sigs).1 (inr there.1))
      ],
    )

pub signed_of_both : (component body : List ℕ) (a b : List Component)
    → Either (HasSigOn component body (unite_parts a b)) (HasSigOn component body a) (HasSigOn component body b)
signed_of_both component body a b =
    of_both part_cmp unite_part (Signs component body) (signed_joined component body) a b
