-- Laws of demands, for the proofs of `wot_search` and `wot_check`: what each demand says, in both directions.
use Rattle.std.proofs.Common.{◌≡◌, ◌≢◌, ℕ, suc, Bool, true, false, cond, Option, Some, None, refl, sym, ap, subst}
use Rattle.std.proofs.Common.{arith}
use Rattle.std.specs.Prelude.{nat_eq}
use Rattle.std.proofs.lemmas.Bool.{eqb-true, eq-eqb}
use Rattle.wot_types.specs.declared.fpr.Fpr.{Fpr}
use Rattle.wot_types.specs.Fpr.{same_fpr}
use Rattle.wot_types.specs.FprLaws.{same_fpr-true, same_fpr-refl}
use Rattle.wot_edge.specs.declared.demand.Demand.TheVariants.{On, Before}
use Rattle.wot_edge.specs.Demand.{is_place, demand_of}
use Rattle.wot_edge.specs.Path.{Question}
use Rattle.wot_edge.specs.Record.{entry_at}

-- ---- fingerprints

pub apart-false : (a b : Fpr) → a ≢ b → same_fpr a b ≡ false
apart-false a b n = by (same_fpr a b) refl
  where
    by : (t : Bool) → same_fpr a b ≡ t → t ≡ false
    by true e = absurd (n (same_fpr-true a b e))
    by false e = refl

pub false-apart : (a b : Fpr) → same_fpr a b ≡ false → a ≢ b
false-apart a b e f = let g : same_fpr a b ≡ true = subst (λ (x : Fpr). same_fpr a x ≡ true) f (same_fpr-refl a) in cc

-- ---- a demand

pub place-true : (p : Option ℕ) (uid : ℕ) → is_place p uid ≡ true → p ≡ Some uid
place-true None uid e = absurd cc
place-true (Some place) uid e = ap Some (eqb-true place uid e)

pub true-place : (p : Option ℕ) (uid : ℕ) → p ≡ Some uid → is_place p uid ≡ true
true-place p uid e = subst (λ (x : Option ℕ). is_place x uid ≡ true) (sym e) (eq-eqb uid uid refl)

pub suc-zero : (n : ℕ) → nat_eq (suc n) 0 ≡ false
suc-zero n = by (nat_eq (suc n) 0) refl
  where
    by : (b : Bool) → nat_eq (suc n) 0 ≡ b → b ≡ false
    by true e = absurd (let f = eqb-true (suc n) 0 e in omega (arith, f))
    by false e = refl

pub demand_some : (q : Question) (n : ℕ) → demand_of q (suc n) ≡ Before (suc n)
demand_some q n = ap (λ (b : Bool). cond b (On (entry_at q.network q.target).place) (Before (suc n))) (suc-zero n)
