-- Numbers: what the test for one of them says.
use Rattle.std.proofs.Common.{◌≡◌, Bool, true, false, sym, ap, subst, refl}
use Rattle.std.specs.Cmp.{IsTotalOrder}
use Rattle.std.specs.Ordering.{is_eq}
use Rattle.std.proofs.lemmas.Cmp.{nat_list_cmp_total, on_total, tied_itself}
use Rattle.std.proofs.lemmas.Map.Lookups.{CmpEqualImpliesEq, exact_bytes}
use Rattle.std.proofs.lemmas.Map.Views.{tells_apart}
use Rattle.wot_types.specs.declared.number.SigNumber.{SigNumber}
use Rattle.wot_types.specs.SigNumber.{number_cmp}
use Rattle.wot_slots.specs.Near.{is_number}

pub numbers_total : IsTotalOrder number_cmp
numbers_total = on_total (λ (n : SigNumber). n.0) nat_list_cmp_total

pub exact : CmpEqualImpliesEq number_cmp
exact a b e = let octets = exact_bytes a.0 b.0 e in λ i. record { 0 = octets i }

pub same_number : (a b : SigNumber) → is_number a b ≡ true → a ≡ b
same_number a b h = tells_apart exact a b h

pub itself : (a : SigNumber) → is_number a a ≡ true
itself a = ap is_eq (tied_itself numbers_total a)

either_way : (p q : Bool) → (p ≡ true → q ≡ true) → (q ≡ true → p ≡ true) → p ≡ q
either_way true q to back = sym (to refl)
either_way false true to back = back refl
either_way false false to back = refl

pub turned : (a b : SigNumber) → is_number a b ≡ is_number b a
turned a b = either_way (is_number a b) (is_number b a) (λ h. subst (λ (x : SigNumber). is_number x a ≡ true)
    (same_number a b h) (itself a)) (λ h. subst (λ (x : SigNumber). is_number x b ≡ true) (same_number b a h)
    (itself b))
