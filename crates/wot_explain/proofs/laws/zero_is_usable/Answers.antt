use Rattle.wot_explain.proofs.Edges.{is_usable_where, zero_is, step_is}
use Rattle.wot_explain.proofs.laws.zero_is_usable.Goals as goal

pub returns-clause-zero : goal.returns-clause-zero
returns-clause-zero c = λ verdicts certs t cert place uid s on. (
  is_usable_where verdicts certs t cert place uid s on,
  λ h. zero_is verdicts certs t cert place uid s on h.0 h.1,
)

pub returns-clause-step : goal.returns-clause-step
returns-clause-step c = λ verdicts certs t cert place uid s on. step_is verdicts certs t cert place uid s on
