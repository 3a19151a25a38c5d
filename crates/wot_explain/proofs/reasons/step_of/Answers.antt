use Rattle.std.proofs.Common.{Option, Some, ap, ◌∙◌}
use Rattle.std.specs.Option.{option_map}
use Rattle.wot_signature.specs.declared.facts.SigFacts.{SigFacts}
use Rattle.wot_edge.specs.Path.{step_of}
use Rattle.wot_live.specs.Edge.{edge_facts, signature_place}
use Rattle.wot_explain.proofs.reasons.step_of.Goals as goal

pub returns-in-Some : goal.returns-in-Some
returns-in-Some c sigs =
    let a = c.args in
    ap Some (c.step_said.ensures (signature_place a.sig.now sigs))
    ∙ ap (λ (o : Option SigFacts). option_map step_of
    (option_map (edge_facts a.issuer a.target a.place (signature_place a.sig.now sigs)) o)) c.in-Some.ensures.said
