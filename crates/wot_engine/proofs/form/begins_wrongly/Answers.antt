use Rattle.std.proofs.Common.{eqb-true, arith}
use Rattle.wot_engine.proofs.Forms.{leading_plus, leading_zero}
use Rattle.wot_engine.proofs.form.begins_wrongly.Goals as goal

pub returns-in-len1-clause-wrong : goal.returns-in-len1-clause-wrong
returns-in-len1-clause-wrong c e = leading_plus c.args.digits.now c.in-len1.len_at_least (eqb-true _ _ e)

pub returns-then-first-eq43-clause-wrong : goal.returns-then-first-eq43-clause-wrong
returns-then-first-eq43-clause-wrong c e = leading_plus c.args.digits.now (omega (arith, c.in-len2-up.len_at_least))
    (eqb-true _ _ e)

pub returns-else-first-eq43-clause-wrong : goal.returns-else-first-eq43-clause-wrong
returns-else-first-eq43-clause-wrong c e = leading_zero c.args.digits.now c.in-len2-up.len_at_least (eqb-true _ _ e)
