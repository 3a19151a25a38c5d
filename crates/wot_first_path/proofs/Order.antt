-- The orders of fingerprints and of lists of steps.
use Rattle.std.proofs.Common.{◌≡◌, ◌≢◌, ◌⊎◌, inl, inr, Bool, true, false, List, ◌∷◌, Ordering, refl, sym, subst, ◌∙◌}
use Rattle.std.specs.declared.cmp.Ordering.TheVariants.{Less, Equal, Greater}
use Rattle.std.specs.Ordering.{is_gt, is_lt, ordering_then, ordering_reverse}
use Rattle.std.proofs.lemmas.Cmp.{tied_itself, upto}
use Rattle.wot_types.specs.declared.fpr.Fpr.{Fpr}
use Rattle.wot_types.specs.Fpr.{same_fpr}
use Rattle.wot_types.specs.FprLaws.{same_fpr-true, same_fpr-refl}
use Rattle.wot_edge.specs.declared.path.Step.{Step}
use Rattle.wot_edge.specs.Order.{step_cmp, steps_cmp}
use Rattle.wot_edge.specs.StepLaws.{step_total, steps_total}

-- two fingerprints are equal or not
pub fpr_cases : (a b : Fpr) → (a ≡ b) ⊎ (a ≢ b)
fpr_cases a b = by (same_fpr a b) refl
  where
    by : (t : Bool) → same_fpr a b ≡ t → (a ≡ b) ⊎ (a ≢ b)
    by true e = inl (same_fpr-true a b e)
    by false e = inr
        (λ f. let g : same_fpr a b ≡ true = subst (λ (x : Fpr). same_fpr a x ≡ true) f (same_fpr-refl a) in cc)

-- ---- not less

apart : (o : Ordering) → o ≡ ordering_reverse o → o ≡ Less → ⊥
apart Less e f = cc
apart Equal e f = cc
apart Greater e f = cc

pub not_less_itself : (a : List Step) → steps_cmp a a ≢ Less
not_less_itself a e = apart (steps_cmp a a) (steps_total.antisymm a a) e

not_gt : (a b : List Step) → steps_cmp b a ≢ Less → is_gt (steps_cmp a b) ≡ false
not_gt a b n = by (steps_cmp a b) (steps_cmp b a) (steps_total.antisymm b a) n
  where
    by : (o p : Ordering) → p ≡ ordering_reverse o → p ≢ Less → is_gt o ≡ false
    by Less p e n = refl
    by Equal p e n = refl
    by Greater p e n = absurd (n e)

not_lt : (a b : List Step) → is_gt (steps_cmp a b) ≡ false → steps_cmp b a ≢ Less
not_lt a b e f = by (steps_cmp a b) (steps_cmp b a) (steps_total.antisymm a b) e f
  where
    by : (o p : Ordering) → o ≡ ordering_reverse p → is_gt o ≡ false → p ≡ Less → ⊥
    by o Less e g f = let h : is_gt Greater ≡ false = subst (λ (x : Ordering). is_gt x ≡ false) e g in cc
    by o Equal e g f = cc
    by o Greater e g f = cc

pub not_less-trans : (a b c : List Step) → steps_cmp b a ≢ Less → steps_cmp c b ≢ Less → steps_cmp c a ≢ Less
not_less-trans a b c m n = not_lt a c (upto steps_total a b c (not_gt a b m) (not_gt b c n))

-- what is less isn't greater
pub less_not : (a b : List Step) → steps_cmp a b ≡ Less → steps_cmp b a ≢ Less
less_not a b e f = by (steps_cmp a b) (steps_cmp b a) (steps_total.antisymm a b) e f
  where
    by : (o p : Ordering) → o ≡ ordering_reverse p → o ≡ Less → p ≡ Less → ⊥
    by o Less e f g = let h : Less ≡ ordering_reverse Less = sym f ∙ e in cc
    by o Equal e f g = cc
    by o Greater e f g = cc

pub not_lt-Less : (o : Ordering) → is_lt o ≡ false → o ≢ Less
not_lt-Less Less e f = cc
not_lt-Less Equal e f = cc
not_lt-Less Greater e f = cc

pub cons_less : (x : Step) (a b : List Step) → steps_cmp (x ∷ a) (x ∷ b) ≡ Less → steps_cmp a b ≡ Less
cons_less x a b l =
    let t : ordering_then (step_cmp x x) (steps_cmp a b) ≡ Less = l in
    subst (λ (o : Ordering). ordering_then o (steps_cmp a b) ≡ Less) (tied_itself step_total x) t
