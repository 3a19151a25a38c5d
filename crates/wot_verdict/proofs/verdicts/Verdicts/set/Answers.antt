use Rattle.std.proofs.Common.{◌≡◌, ◌≢◌, ◌↔◌, Some, IsTrue, Option, ap, refl, subst, sym, ◌∙◌}
use Rattle.wot_verdict.specs.Kept.{verdict_in}
use Rattle.wot_verdict.specs.Verdicts.{verdict_at}
use Rattle.wot_verdict.specs.declared.verdict.Verdict.{Verdict}
use Rattle.wot_verdict.proofs.Changed.{found_in, on_err}
use Rattle.wot_verdict.proofs.Holding.{same_holders, same_kept}
use Rattle.wot_verdict.proofs.verdicts.Verdicts.set.Goals as goal

pub returns-clause-at_each : goal.returns-clause-at_each
returns-clause-at_each c = λ q. rw (← c.self.view_is) (c.in_ok-set_counted.ensures.at_each q)

pub returns-in_err-set_counted-clause-kept : goal.returns-in_err-set_counted-clause-kept
returns-in_err-set_counted-clause-kept c =
    on_err _ c.from_residual.result (rw (← c.self.view_is) (same_kept c.self.inside.held c.set_counted.new.held
    c.self.inside.long.entries c.self.inside.long.entries c.in_err-set_counted.ensures.same
    c.in_err-set_counted.ensures.holders refl))

pub returns-in_err-set_counted-clause-was_absent : goal.returns-in_err-set_counted-clause-was_absent
returns-in_err-set_counted-clause-was_absent c =
    on_err _ c.from_residual.result (rw (← c.self.view_is) (found_in c.self.inside.held c.args.number
    ∙ c.in_err-set_counted.ensures.was_absent))

pub returns-in_err-set_counted-clause-holders : goal.returns-in_err-set_counted-clause-holders
returns-in_err-set_counted-clause-holders c =
    rw (← c.self.view_is) (same_holders c.self.inside.held c.set_counted.new.held
    c.self.inside.long.entries c.self.inside.long.entries c.in_err-set_counted.ensures.holders refl)

pub returns-clause-changed : goal.returns-clause-changed
returns-clause-changed c =
    let old : c.verdict_of.result ≡ verdict_at c.args.self.now.entries c.args.number =
    rw (← c.self.view_is) (c.verdict_of.ensures.verdict ∙ ap verdict_in c.get-old.ensures.held
    ∙ sym (found_in c.self.inside.held c.args.number)) in
    subst (λ (o : Option Verdict). IsTrue c.differs.result ↔ (o ≢ Some c.args.verdict)) old c.differs.ensures

pub returns-clause-holders : goal.returns-clause-holders
returns-clause-holders c =
    rw (← c.self.view_is) (same_holders c.self.inside.held c.set_counted.new.held
    c.self.inside.long.entries c.self.inside.long.entries c.in_ok-set_counted.ensures.holders refl)
