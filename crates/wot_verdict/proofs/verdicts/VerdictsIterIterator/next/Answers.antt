use Rattle.std.proofs.Common.{◌≡◌, ◌∷◌, Some, ap, length, arith}
use Rattle.wot_verdict.specs.Kept.{verdicts_above}
use Rattle.wot_verdict.proofs.Changed.{first_said, none_said_above}
use Rattle.wot_verdict.proofs.verdicts.VerdictsIterIterator.next.Goals as goal

pub returns-in_default-clause-steps : goal.returns-in_default-clause-steps
returns-in_default-clause-steps c =
    let none = none_said_above c.self.inside.held.now c.self.inside.last c.self.invariant
    c.in_default.ensures.next in
    rw (← c.self.view_is) (none, none)

pub returns-clause-steps : goal.returns-clause-steps
returns-clause-steps c =
    rw (← c.self.view_is) (first_said c.self.inside.held.now c.self.inside.last c.self.invariant c.in-Some.number
    c.in-Some.verdict c.in-Some.ensures.next)

pub returns-clause-goes : goal.returns-clause-goes
returns-clause-goes c =
    let steps : c.args.self.now ≡ (c.in-Some.number, c.in-Some.verdict)
    ∷ verdicts_above (Some c.in-Some.number) c.self.inside.held.now =
    rw (← c.self.view_is) (first_said c.self.inside.held.now c.self.inside.last c.self.invariant c.in-Some.number
    c.in-Some.verdict c.in-Some.ensures.next) in
    let longer = ap length steps in
    record { on = λ finite. (tt, finite, omega (arith, longer)); keeps = tt; rests = λ finite. tt }
