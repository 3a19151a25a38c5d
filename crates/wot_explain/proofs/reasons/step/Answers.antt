use Rattle.std.proofs.Common.{◌≡◌, Option, Some, ap, ◌∙◌}
use Rattle.std.specs.Option.{option_and_then, option_map}
use Rattle.wot_types.specs.declared.fpr.Fpr.{Fpr}
use Rattle.wot_verdict.specs.Verdicts.{verdict_at}
use Rattle.wot_verdict.specs.declared.verdict.Verdict.{Verdict}
use Rattle.wot_verdict.specs.declared.verdict.Verdict.TheVariants.{Good}
use Rattle.wot_cert.specs.Issuer.{good_by}
use Rattle.wot_edge.specs.Path.{step_of}
use Rattle.wot_live.specs.Edge.{edge_by}
use Rattle.wot_explain.proofs.reasons.step.Goals as goal

pub returns-in-Some-Good : goal.returns-in-Some-Good
returns-in-Some-Good c =
    let a = c.args in
    let said : Some (Good c.in-Some-Good.issuer) ≡ verdict_at a.verdicts.now.entries a.sig.now.number =
    cc (c.in-Some-Good.ensures.found, c.in-Some-Good.field-0-is, c.number.ensures.number) in
    c.step_of.ensures a.uid.now.sigs
    ∙ ap (λ (o : Option Verdict). option_map step_of
    (option_and_then (λ (by : Fpr). edge_by by a.target a.place a.uid.now.sigs a.sig.now) (good_by o))) said
