use Rattle.std.proofs.Common.{◌<◌, length, arith}
use Rattle.wot_reach.proofs.slots.number_from.Goals as goal

pub returns : goal.returns
returns c = record {
  tells = λ numbers are.
      let lt : c.args.place < length c.args.slots.now = omega (arith, c.if-place-slots.false) in
      c.number_if.ensures.tells numbers (are c.args.place _ lt);
}
