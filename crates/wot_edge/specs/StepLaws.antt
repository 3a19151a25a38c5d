-- Laws of the orders of steps and of lists of steps, for the proofs of all crates.
use Rattle.std.proofs.Common.{◌≡◌, ◌⊎◌, inl, inr, true, List, Ordering, refl, sym}
use Rattle.std.specs.declared.cmp.Ordering.TheVariants.{Less, Equal, Greater}
use Rattle.std.specs.Ordering.{is_lt, nat_cmp, ordering_reverse}
use Rattle.std.specs.Cmp.{IsTotalOrder, on_total}
use Rattle.std.proofs.lemmas.Bool.{true≢false}
use Rattle.std.proofs.lemmas.Cmp.{nat_cmp_total, then_total, lists_total}
use Rattle.std.proofs.lemmas.Map.Lookups.{exact_unsigned}
use Rattle.wot_types.specs.Fpr.{fpr_cmp}
use Rattle.wot_types.specs.FprLaws.{fpr_total, fpr_exact}
use Rattle.wot_types.specs.PlainLaws.{then-Equal}
use Rattle.wot_edge.specs.declared.path.Step.{Step}
use Rattle.wot_edge.specs.Order.{step_cmp, steps_cmp}

pub is_lt-Less : (o : Ordering) → is_lt o ≡ true → o ≡ Less
is_lt-Less Less e = refl
is_lt-Less Equal e = absurd (true≢false (sym e))
is_lt-Less Greater e = absurd (true≢false (sym e))

pub step_total : IsTotalOrder step_cmp
step_total = then_total (on_total (λ step. step.issuer) fpr_total)
    (then_total (on_total (λ step. step.target) fpr_total) (on_total (λ step. step.uid) nat_cmp_total))

pub steps_total : IsTotalOrder steps_cmp
steps_total = lists_total step_total

pub step_exact : (x y : Step) → step_cmp x y ≡ Equal → (x.issuer ≡ y.issuer) × (x.target ≡ y.target) × (x.uid ≡ y.uid)
step_exact x y e =
    let a = then-Equal (fpr_cmp x.issuer y.issuer) _ e in
    let b = then-Equal (fpr_cmp x.target y.target) (nat_cmp x.uid y.uid) a.1 in
    (fpr_exact _ _ a.0, fpr_exact _ _ b.0, exact_unsigned _ _ b.1)

-- one is less, or they tie
pub ranked_steps : (x y : List Step) → (steps_cmp x y ≡ Less) ⊎ ((steps_cmp x y ≡ Equal) ⊎ (steps_cmp y x ≡ Less))
ranked_steps x y = by (steps_cmp x y) (steps_cmp y x) (steps_total.antisymm x y) (steps_total.antisymm y x)
  where
    by : (o p : Ordering) → o ≡ ordering_reverse p → p ≡ ordering_reverse o → (o ≡ Less) ⊎ ((o ≡ Equal) ⊎ (p ≡ Less))
    by Less p e f = inl refl
    by Equal p e f = inr (inl refl)
    by Greater p e f = inr (inr f)
