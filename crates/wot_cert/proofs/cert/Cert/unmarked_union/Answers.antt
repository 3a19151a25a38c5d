use Rattle.std.proofs.Common.{ap, ◌∙◌}
use Rattle.wot_component.specs.Certificate.{unmarked}
use Rattle.std.proofs.lemmas.Result.{IfOk-weaker}
use Rattle.wot_cert.proofs.cert.Cert.unmarked_union.Goals as goal

pub returns : goal.returns
returns c = IfOk-weaker c.copied.result _ _ (λ copy e. e ∙ ap unmarked c.in_ok-union.ensures) c.copied.ensures
