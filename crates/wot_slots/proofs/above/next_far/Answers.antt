use Rattle.std.proofs.Common.{subst}
use Rattle.std.specs.declared.ops.Bound.TheVariants.{Unbounded}
use Rattle.std.specs.BTreeMap.Range.{IsRangeOf}
use Rattle.wot_types.specs.SigNumber.{number_cmp}
use Rattle.wot_slots.proofs.Nexts.{next_in_rest}
use Rattle.wot_slots.proofs.above.next_far.Goals as goal

pub returns-in-Some-clause-next : goal.returns-in-Some-clause-next
returns-in-Some-clause-next g c =
    next_in_rest c.args.rest.now c.args.last c.range-entries.result c.next.new.self c.in-Some.number.now
    c.in-Some.field-0-1.now c.in-Some.ensures.steps
    (subst (λ lower. IsRangeOf number_cmp lower Unbounded c.args.rest.now c.range-entries.result)
    c.bound_of.ensures (c.range-entries.ensures.in_range tt))
