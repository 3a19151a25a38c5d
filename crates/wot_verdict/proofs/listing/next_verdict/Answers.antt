use Rattle.std.proofs.Common.{ap, length, sym, arith}
use Rattle.wot_slots.proofs.Entries.{first_above}
use Rattle.wot_verdict.proofs.Passing.{passed_on}
use Rattle.wot_verdict.proofs.listing.next_verdict.Goals as goal

pub numbers-smaller : goal.numbers-smaller
numbers-smaller c =
    let longer = ap length (first_above c.args.held.now c.numbers.at c.requires.numbers c.in-Some.number c.in-Some.noted
    c.in-Some.ensures.next) in
    omega (arith, longer)

pub numbers-preserved : goal.numbers-preserved
numbers-preserved c =
    passed_on c.args.held.now c.args.last c.numbers.at c.numbers.invariant c.in-Some.number c.in-Some.noted
    c.in-Some.ensures.next (sym c.in_default-verdict_of.ensures.verdict)
