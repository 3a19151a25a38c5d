use Rattle.std.proofs.Common.{◌≡◌, ◌∙◌, sym, ap, subst, List}
use Rattle.wot_component.specs.Certificate.{Component}
use Rattle.wot_edge.specs.declared.edge.EdgeFacts.{EdgeFacts}
use Rattle.wot_edge.specs.Record.{Has, Row, rows_into}
use Rattle.wot_network.specs.Net.{network_for}
use Rattle.wot_network.specs.Roads.{present_of}
use Rattle.wot_network.specs.Records.{is_in_scope}
use Rattle.std.proofs.lemmas.Result.{IfOk-weaker}
use Rattle.wot_network.proofs.LookupsAgree.{scope_open, scope_some, scope_none}
use Rattle.wot_network.proofs.roads.NetRoadsRoads.scope.Goals as goal

pub returns-in-Some : goal.returns-in-Some
returns-in-Some c = record {
  scope = IfOk-weaker c.holds_for.result (λ holds. holds ≡ is_in_scope c.user_ids.result.now c.args.uid.now
      c.facts-facts.result)
      (λ holds. (row : Row) →
      Has (rows_into (network_for (present_of c.args.self.now) c.args.uid.now) c.args.edge.now.target) row →
      row.edge ≡ c.args.edge.now → row.scope ≡ holds)
      (λ holds is row h e.
      scope_some c.args.self.now.network.now c.args.self.now.keyring.now c.args.self.now.right c.args.uid.now row
      c.facts-facts.result c.in-Some.cert.now
      (sym c.in-Some.ensures.found)
      (subst (λ (f : EdgeFacts). Has (rows_into (network_for (present_of c.args.self.now) c.args.uid.now) f.target) row)
      (sym c.facts-facts.ensures.facts) h) (e ∙ sym c.facts-facts.ensures.facts)
      ∙ ap (λ (uids : List Component). is_in_scope uids c.args.uid.now c.facts-facts.result)
      (sym c.user_ids.ensures.user_ids)
      ∙ sym is)
      c.holds_for.ensures.holds;
}

pub returns-in-None : goal.returns-in-None
returns-in-None c = record {
  scope = λ row h e.
      absurd (scope_none c.args.self.now.network.now c.args.self.now.keyring.now c.args.self.now.right c.args.uid.now
      row c.facts-facts.result
      (sym c.in-None.ensures.found)
      (subst (λ (f : EdgeFacts). Has (rows_into (network_for (present_of c.args.self.now) c.args.uid.now) f.target) row)
      (sym c.facts-facts.ensures.facts) h));
}

pub returns-then-not-facts : goal.returns-then-not-facts
returns-then-not-facts c = record {
  scope = λ row h e.
      scope_open c.args.self.now.network.now c.args.self.now.keyring.now c.args.self.now.right c.args.uid.now row
      c.facts-facts.result c.if-not-facts.true
      (subst (λ (f : EdgeFacts). Has (rows_into (network_for (present_of c.args.self.now) c.args.uid.now) f.target) row)
      (sym c.facts-facts.ensures.facts) h) (e ∙ sym c.facts-facts.ensures.facts);
}
