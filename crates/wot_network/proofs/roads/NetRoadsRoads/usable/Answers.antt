use Rattle.std.proofs.Common.{◌∙◌, sym, ap}
use Rattle.wot_standing.specs.Usable.{is_usable}
use Rattle.wot_standing.specs.declared.status.Standing.{Standing}
use Rattle.wot_network.proofs.LookupsAgree.{usable_some, usable_none}
use Rattle.wot_network.proofs.roads.NetRoadsRoads.usable.Goals as goal

pub returns-in-Some : goal.returns-in-Some
returns-in-Some c = record {
  usable = λ uid row h e.
      usable_some c.args.self.now.network.now c.args.self.now.keyring.now c.args.self.now.right uid
      c.args.edge.now.target row c.facts-facts.result
      c.in-Some.line.now (sym c.in-Some.ensures.found) h (e ∙ sym c.facts-facts.ensures.facts)
      ∙ ap (λ (s : Standing). is_usable s c.facts-facts.result.made) (sym c.standing.ensures.standing)
      ∙ sym c.is_usable.ensures.usable;
}

pub returns-in-None : goal.returns-in-None
returns-in-None c = record {
  usable = λ uid row h e.
      usable_none c.args.self.now.network.now c.args.self.now.keyring.now c.args.self.now.right uid
      c.args.edge.now.target row c.facts-facts.result
      (sym c.in-None.ensures.found) h (e ∙ sym c.facts-facts.ensures.facts);
}
