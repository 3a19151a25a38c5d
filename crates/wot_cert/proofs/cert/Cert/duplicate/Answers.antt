use Rattle.std.proofs.Common.{◌∙◌}
use Rattle.wot_component.proofs.Copies.{cert_kept}
use Rattle.std.proofs.lemmas.Result.{IfOk-weaker}
use Rattle.wot_cert.proofs.cert.Cert.duplicate.Goals as goal

pub returns : goal.returns
returns c = record
    { equal = IfOk-weaker c.copied.result _ _ (λ copy e. e ∙ cert_kept c.args.self.now) c.copied.ensures }
