use Rattle.std.proofs.Common.{Bool, sym, subst, ◌∙◌}
use Rattle.wot_reach.specs.Reach.{number_of}
use Rattle.wot_reach.specs.Onward.{IsUsableIf}
use Rattle.wot_reach.proofs.EdgesThatLead.{adds_edge, adds_none}
use Rattle.wot_reach.proofs.onward.put_if.Goals as goal

pub returns-then-not-is_onward : goal.returns-then-not-is_onward
returns-then-not-is_onward g c = record {
  adds =
      adds_none (g.R.Roads.network c.args.roads.now) (number_of c.args.numbers.now.entries) c.args.edge.now
      c.args.onward.now
      c.is_usable_too-onward.result c.is_usable_too-onward.ensures.usable
      (sym c.is_onward.ensures.onward ∙ c.if-not-is_onward.true);
}

pub returns : goal.returns
returns g c = record {
  adds =
      adds_edge (g.R.Roads.network c.args.roads.now) (number_of c.args.numbers.now.entries) c.args.edge.now
      c.args.onward.now c.put_edge.new.onward
      c.in_ok-put_edge.ensures.fpr c.in_ok-put_edge.ensures.edges c.in_ok-put_edge.ensures.usable
      (subst (λ (b : Bool). IsUsableIf (g.R.Roads.network c.args.roads.now) c.args.onward.now.all_usable b c.args.edge.now)
      (sym c.put_edge.ensures.all)
      c.is_usable_too-onward.ensures.usable);
}
