use Rattle.std.proofs.Common.{ap, ◌∙◌}
use Rattle.wot_component.specs.Certificate.{Certificate}
use Rattle.wot_component.specs.Counts.{signatures_of}
use Rattle.wot_component.specs.Totals.{cap}
use Rattle.wot_component.proofs.Follows.{uncapped}
use Rattle.wot_cert.proofs.Totals.{few_signatures}
use Rattle.wot_cert.proofs.cert.Cert.signatures.Goals as goal

pub returns : goal.returns
returns c = record {
  signatures = c.self.invariant.1.signatures ∙ ap (λ (x : Certificate). cap (signatures_of x)) c.self.view_is
      ∙ uncapped _ (few_signatures c.args.self.now c.requires);
}
