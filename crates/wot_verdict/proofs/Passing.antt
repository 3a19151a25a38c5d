-- The next number that has a verdict, found by passing over numbers that have none.
use Rattle.std.proofs.Common.{◌≡◌, Bool, true, false, Option, Some, None, Ordering, sym, ap, ◌∙◌, refl}
use Rattle.std.specs.Ordering.{is_eq, is_lt, ordering_reverse}
use Rattle.std.specs.declared.cmp.Ordering.TheVariants.{Less, Equal, Greater}
use Rattle.wot_types.specs.declared.number.SigNumber.{SigNumber}
use Rattle.wot_types.specs.SigNumber.{number_cmp}
use Rattle.wot_slots.specs.declared.slots.Slots.{Slots}
use Rattle.wot_slots.specs.Above.{IsNextEntry, IsNumber, is_above}
use Rattle.wot_slots.specs.Near.{held_of}
use Rattle.wot_slots.proofs.Numbers.{numbers_total, same_number}
use Rattle.wot_slots.proofs.Rises.{less_on}
use Rattle.wot_verdict.specs.declared.noted.Noted.{Noted}
use Rattle.wot_verdict.specs.declared.verdict.Verdict.{Verdict}
use Rattle.wot_verdict.specs.Kept.{said_in, verdict_in}

-- The numbers between the last one and this one have no verdict.
pub record HasPassed (held : Slots Noted) (last at : Option SigNumber) : Type 0 where
  pub later : (q : SigNumber) → is_above at q ≡ true → is_above last q ≡ true
  pub none : (q : SigNumber) → IsNumber q → is_above last q ≡ true → is_above at q ≡ false → said_in held q ≡ None

pub passed_none : (held : Slots Noted) (last : Option SigNumber) → HasPassed held last last
passed_none held last = record {
  later = λ q above. above;
  none = λ q number above not_above. absurd (both above not_above);
}
  where
    both : {b : Bool} → b ≡ true → b ≡ false → ⊥
    both h k = cc

module _ (held : Slots Noted) (last at : Option SigNumber) (passed : HasPassed held last at) where
  -- What is above the last one and not passed over is above this one.
  either : {P : Type 0} (q : SigNumber) → (is_above at q ≡ true → P) → (is_above at q ≡ false → P) → P
  either {P} q high low = by (is_above at q) refl
    where
      by : (b : Bool) → is_above at q ≡ b → P
      by true h = high h
      by false h = low h

  -- No number is left.
  pub none_next : IsNextEntry (held_of held) at None → IsNextEntry (said_in held) last None
  none_next next = record {
    above = tt;
    held = tt;
    least = λ q number above below. either q (λ high. ap verdict_in (next.least q number high refl))
        (passed.none q number above);
  }

  module _ (n : SigNumber) (noted : Noted) (next : IsNextEntry (held_of held) at (Some (n, noted))) where
    -- This number has a verdict.
    pub verdict_next : (verdict : Verdict) → verdict_in (Some noted) ≡ Some verdict →
        IsNextEntry (said_in held) last (Some (n, verdict))
    verdict_next verdict is = record {
      above = passed.later n next.above;
      held = ap verdict_in next.held ∙ is;
      least = λ q number above below. either q (λ high. ap verdict_in (next.least q number high below))
          (passed.none q number above);
    }

    -- This number has none.
    pub passed_on : verdict_in (Some noted) ≡ None → HasPassed held last (Some n)
    passed_on none = record {
      later = λ q above. passed.later q (above_both at next.above q above);
      none = λ q number above not_above. either q
          (λ high. by q number high not_above (number_cmp n q) refl) (passed.none q number above);
    }
      where
        above_both : (o : Option SigNumber) → is_above o n ≡ true → (q : SigNumber) →
            is_above (Some n) q ≡ true → is_above o q ≡ true
        above_both None h q above = refl
        above_both (Some l) h q above = less_on l n q h above

        by : (q : SigNumber) → IsNumber q → is_above at q ≡ true → is_above (Some n) q ≡ false → (o : Ordering) →
            number_cmp n q ≡ o → said_in held q ≡ None
        by q number high not_above Less e = absurd (both (ap is_lt e) not_above)
          where
            both : {b : Bool} → b ≡ true → b ≡ false → ⊥
            both h k = cc
        by q number high not_above Equal e =
            ap (said_in held) (sym (same_number n q (ap is_eq e))) ∙ ap verdict_in next.held ∙ none
        by q number high not_above Greater e =
            ap verdict_in (next.least q number high (ap is_lt (numbers_total.antisymm q n ∙ ap ordering_reverse e)))
