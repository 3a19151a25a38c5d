use Rattle.std.proofs.Common.{ap, ◌∙◌, sym, ℕ, Option}
use Rattle.std.specs.Prelude.{◌||◌, not}
use Rattle.wot_edge.specs.declared.edge.EdgeFacts.{EdgeFacts}
use Rattle.wot_edge.specs.Record.{Row}
use Rattle.wot_edge.specs.Plain.{holds_inside, octet_place}
use Rattle.wot_edge.proofs.PlainTold.{told_made}
use Rattle.wot_edge.proofs.plain.PlainRoadsRoads.scope.Goals as goal

pub returns : goal.returns
returns c =
    let inside = c.args.self.now.inside in
    let place = octet_place c.args.uid.now in
    record {
      scope = λ row h e.
          ap (λ (r : Row). r.scope) (told_made c.args.self.now c.args.uid.now c.args.edge.now.target row h)
          ∙ ap (λ (edge : EdgeFacts). not edge.scoped || holds_inside inside place) (e ∙ sym c.facts.ensures.facts)
          ∙ ap (λ (p : Option ℕ). not c.facts.result.scoped || holds_inside inside p) (sym c.place_in.ensures.place)
          ∙ sym c.holds.ensures.holds;
    }
