use Rattle.std.proofs.Common.{◌≤◌, sym, ap, subst, ◌∙◌, arith}
use Rattle.wot_slots.specs.Above.{is_above}
use Rattle.wot_slots.specs.Near.{place_in}
use Rattle.wot_slots.proofs.Rises.{places_rise}
use Rattle.wot_slots.proofs.above.start_of.Goals as goal

pub returns-in_default : goal.returns-in_default
returns-in_default c = record { start = λ q number above. omega arith }

pub returns : goal.returns
returns c = record {
  start = λ q number above.
      subst (λ p. p ≤ place_in c.args.count q) (sym c.place_of.ensures.place)
      (places_rise c.args.count c.in-Some.number q c.number_is_whole.ensures.whole number
      (ap (λ o. is_above o q) (sym c.in-Some.is) ∙ above));
}
