use Rattle.std.proofs.Common.{ap, ◌∙◌, sym}
use Rattle.std.specs.Prelude.{nat_lt}
use Rattle.wot_edge.specs.declared.edge.EdgeFacts.{EdgeFacts}
use Rattle.wot_edge.specs.Record.{Row}
use Rattle.wot_edge.proofs.PlainTold.{told_made}
use Rattle.wot_edge.proofs.plain.PlainRoadsRoads.usable.Goals as goal

pub returns : goal.returns
returns c = record {
  usable = λ uid row h e. ap (λ (r : Row). r.usable) (told_made c.args.self.now uid c.args.edge.now.target row h)
      ∙ ap (λ (edge : EdgeFacts). nat_lt 0 edge.made) (e ∙ sym c.facts.ensures.facts);
}
