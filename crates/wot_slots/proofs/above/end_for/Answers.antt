use Rattle.std.proofs.Common.{◌<◌, ◌+◌, sym, subst, arith}
use Rattle.std.specs.Option.{IfSome}
use Rattle.wot_slots.specs.Near.{place_in}
use Rattle.wot_slots.proofs.above.end_for.Goals as goal

pub returns-in_default : goal.returns-in_default
returns-in_default c = record { within = omega arith; end = λ i within best. within }

pub returns : goal.returns
returns c = record {
  within = c.end_of.ensures.within;
  end = λ i within near.
      c.end_of.ensures.whole i (subst (λ p. i < p + 8) (sym c.place_of.ensures.place)
      (subst (λ o. IfSome o (λ b. i < place_in c.args.count b + 8)) c.in-Some.is near)) within;
}
