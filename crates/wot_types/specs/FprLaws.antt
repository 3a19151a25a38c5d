-- Laws of the order of fingerprints: two fingerprints are equal if and only if they tie in it. The law
-- `fingerprints_tie_where_equal` says so too. Proofs of the crates above cite it from here.
use Rattle.std.specs.Prelude.{◌≡◌, true}
use Rattle.std.specs.declared.cmp.Ordering.{Ordering}
use Rattle.std.specs.declared.cmp.Ordering.TheVariants.{Less, Equal, Greater}
use Rattle.std.specs.Ordering.{is_eq, ordering_reverse}
use Rattle.std.specs.Cmp.{Equal-is, tied_itself}
use Rattle.std.proofs.Common.{refl, ap, ◌∙◌}
use Rattle.wot_types.specs.declared.fpr.Fpr.{Fpr}
use Rattle.wot_types.specs.contracts.fpr.FprOrd.TheImpl.{ghosts}
use Rattle.wot_types.specs.Fpr.{fpr_cmp, same_fpr}
pub use Rattle.wot_types.specs.FprOrder.{fpr_total, fpr_exact}

pub same_fpr-true : (a b : Fpr) → same_fpr a b ≡ true → a ≡ b
same_fpr-true a b e = fpr_exact a b ((Equal-is (fpr_cmp a b)).0 e)

pub same_fpr-refl : (a : Fpr) → same_fpr a a ≡ true
same_fpr-refl a = ap is_eq (tied_itself fpr_total a)

turned : (o : Ordering) → is_eq (ordering_reverse o) ≡ is_eq o
turned Less = refl
turned Equal = refl
turned Greater = refl

-- which of the two comes first doesn't matter
pub same_fpr-sym : (a b : Fpr) → same_fpr a b ≡ same_fpr b a
same_fpr-sym a b = ap is_eq (fpr_total.antisymm a b) ∙ turned (fpr_cmp b a)

-- the order that maps of fingerprints use
pub same_cmp : ghosts.cmp ≡ fpr_cmp
same_cmp = refl
