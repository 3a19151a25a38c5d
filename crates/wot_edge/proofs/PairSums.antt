-- The order of pairs, and what is used of them.
use Rattle.std.proofs.Common.{◌≡◌, ℕ, ◌+◌, Bool, true, false, cond, List, ◌∷◌, Ordering, refl, sym, ap, subst, ◌∙◌}
use Rattle.std.proofs.Common.{arith}
use Rattle.std.specs.declared.cmp.Ordering.TheVariants.{Less, Equal, Greater}
use Rattle.std.specs.Prelude.{◌&&◌, ◌||◌}
use Rattle.std.specs.Ordering.{is_eq, ordering_then}
use Rattle.std.specs.List.{list_any}
use Rattle.wot_types.specs.declared.fpr.Fpr.{Fpr}
use Rattle.wot_types.specs.Fpr.{fpr_cmp, same_fpr}
use Rattle.wot_types.specs.FprLaws.{same_cmp, same_fpr-true, same_fpr-refl, same_fpr-sym}
use Rattle.wot_edge.specs.declared.path.Step.{Step}
use Rattle.wot_edge.specs.declared.used.Pair.{Pair}
use Rattle.wot_edge.specs.contracts.used.PairOrd.TheImpl.{ghosts}
use Rattle.wot_edge.specs.Path.{is_of, pair_part}
use Rattle.wot_edge.specs.Sums.{pair_cmp, pair_of}

abbrev pub derived_pair_cmp : Pair → Pair → Ordering
derived_pair_cmp = ghosts.cmp

same_pair_order : (a b : Pair) → derived_pair_cmp a b ≡ pair_cmp a b
same_pair_order a b =
    ap (λ (cmp : Fpr → Fpr → Ordering). ordering_then (cmp a.issuer b.issuer) (cmp a.target b.target)) same_cmp

pub same_pair_cmp : derived_pair_cmp ≡ pair_cmp
same_pair_cmp = λ i a b. same_pair_order a b i

-- ---- one step's pair

is_eq-then : (o p : Ordering) → is_eq (ordering_then o p) ≡ (is_eq o && is_eq p)
is_eq-then Less p = refl
is_eq-then Equal p = refl
is_eq-then Greater p = refl

pub at_pair : (q : Pair) (step : Step) → is_eq (pair_cmp (pair_of step) q) ≡ is_of q.issuer q.target step
at_pair q step =
    is_eq-then (fpr_cmp step.issuer q.issuer) (fpr_cmp step.target q.target)
    ∙ ap (λ (b : Bool). b && same_fpr step.target q.target) (same_fpr-sym step.issuer q.issuer)
    ∙ ap (λ (b : Bool). same_fpr q.issuer step.issuer && b) (same_fpr-sym step.target q.target)

pub pair_is : (q : Pair) (step : Step) → is_of q.issuer q.target step ≡ true → q ≡ pair_of step
pair_is q step e = by (same_fpr q.issuer step.issuer) (same_fpr q.target step.target) refl refl e
  where
    by : (a b : Bool) → same_fpr q.issuer step.issuer ≡ a → same_fpr q.target step.target ≡ b → (a && b) ≡ true
        → q ≡ pair_of step
    by true true f g e =
        let issuer = same_fpr-true q.issuer step.issuer f in let target = same_fpr-true q.target step.target g in
        λ i. record { issuer = issuer i; target = target i }
    by true false f g e = absurd cc
    by false b f g e = absurd cc

-- what the steps use of a pair, by whether the first is of it, and whether a later one is
part_by : (issuer target : Fpr) (amount : ℕ) (step : Step) (later : List Step)
    → pair_part issuer target amount (step ∷ later) ≡ cond
    (is_of issuer target step || list_any (is_of issuer target) later) amount 0
part_by issuer target amount step later = refl

module _ (q : Pair) (step : Step) (later : List Step) (amount : ℕ) where
  pub step_raised : (old new : ℕ) → list_any (is_of step.issuer step.target) later ≡ false
      → new ≡ old + cond (is_of q.issuer q.target step) amount 0
      → new + pair_part q.issuer q.target amount later ≡ old + pair_part q.issuer q.target amount (step ∷ later)
  step_raised old new none e = by (is_of q.issuer q.target step) refl e
    where
      by : (b : Bool) → is_of q.issuer q.target step ≡ b → new ≡ old + cond b amount 0
          → new + pair_part q.issuer q.target amount later ≡ old + cond (b || list_any (is_of q.issuer q.target) later)
          amount 0
      by true f e =
          let same : list_any (is_of q.issuer q.target) later ≡ false =
          subst (λ (p : Pair). list_any (is_of p.issuer p.target) later ≡ false) (sym (pair_is q step f)) none in
          rw same (omega (arith, e))
      by false f e = ap (λ (n : ℕ). n + pair_part q.issuer q.target amount later) (omega (arith, e))

  pub step_kept : (old : ℕ) → list_any (is_of step.issuer step.target) later ≡ true
      → old + pair_part q.issuer q.target amount later ≡ old + pair_part q.issuer q.target amount (step ∷ later)
  step_kept old some = by (is_of q.issuer q.target step) refl
    where
      by : (b : Bool) → is_of q.issuer q.target step ≡ b
          → old + pair_part q.issuer q.target amount later ≡ old + cond (b || list_any (is_of q.issuer q.target) later)
          amount 0
      by true f = let same : list_any (is_of q.issuer q.target) later ≡ true =
          subst (λ (p : Pair). list_any (is_of p.issuer p.target) later ≡ true) (sym (pair_is q step f)) some in
          rw same refl
      by false f = refl

-- the first step uses the amount of its own pair
pub first_part : (step : Step) (later : List Step) (amount : ℕ)
    → pair_part step.issuer step.target amount (step ∷ later) ≡ amount
first_part step later amount = rw (same_fpr-refl step.issuer, same_fpr-refl step.target) refl
