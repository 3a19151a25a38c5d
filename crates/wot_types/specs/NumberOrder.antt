-- The order of signature numbers is total, and numbers that tie in it are equal.
use Rattle.std.specs.Prelude.{◌≡◌}
use Rattle.std.specs.Ordering.{is_eq}
use Rattle.std.specs.Cmp.{IsTotalOrder, on_total}
use Rattle.std.specs.Cmp.Lexicographic.{texts_ties}
use Rattle.std.proofs.lemmas.Cmp.{nat_list_cmp_total}
use Rattle.wot_types.specs.declared.number.SigNumber.{SigNumber}
use Rattle.wot_types.specs.contracts.number.SigNumberPartialEq.TheImpl.{ghosts}
use Rattle.wot_types.specs.SigNumber.{number_cmp}

pub number_total : IsTotalOrder number_cmp
number_total = on_total (λ (number : SigNumber). number.0) nat_list_cmp_total

-- the derived equality test agrees with the order
pub number_ties : (a b : SigNumber) → ghosts.eq a b ≡ is_eq (number_cmp a b)
number_ties a b = texts_ties a.0 b.0
