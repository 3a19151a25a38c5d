use Rattle.std.proofs.Common.{◌∙◌, sym, subst, List}
use Rattle.std.specs.List.Sorted.{IsStrictlySortedBy}
use Rattle.wot_edge.specs.declared.edge.EdgeFacts.{EdgeFacts}
use Rattle.wot_edge.specs.Order.{edge_cmp}
use Rattle.wot_keyring_spec.specs.Keyring.{certificates_in}
use Rattle.wot_network.proofs.Fprs.{named_certs}
use Rattle.wot_network.proofs.LookupsAgree.{rows_some, rows_none, none_in_order}
use Rattle.wot_network.proofs.roads.NetRoadsRoads.rows.Goals as goal

pub returns-in-Some-clause-rows : goal.returns-in-Some-clause-rows
returns-in-Some-clause-rows c uid =
    c.edges.ensures.edges
    ∙ rows_some c.args.self.now.network.now c.args.self.now.keyring.now c.args.self.now.right uid c.args.target.now
    c.in-Some.line.now (sym c.in-Some.ensures.found)

pub returns-in-Some-clause-order : goal.returns-in-Some-clause-order
returns-in-Some-clause-order c =
    subst (λ (edges : List EdgeFacts). IsStrictlySortedBy edge_cmp edges) (sym c.edges.ensures.edges)
    (c.line.ensures.lawful c.args.target.now c.in-Some.line.now (sym c.in-Some.ensures.found)).order

pub returns-in-Some-clause-lawful : goal.returns-in-Some-clause-lawful
returns-in-Some-clause-lawful c uid =
    c.record_is_lawful.ensures.lawful (certificates_in c.args.self.now.keyring.now) c.args.self.now.keyring.now.verdicts
    c.args.self.now.network.now.time uid (named_certs c.args.self.now.keyring.now.certs c.ordered.ensures.named)

pub returns-in-None-clause-rows : goal.returns-in-None-clause-rows
returns-in-None-clause-rows c uid =
    rows_none c.args.self.now.network.now c.args.self.now.keyring.now c.args.self.now.right uid c.args.target.now
    (sym c.in-None.ensures.found)

pub returns-in-None-clause-order : goal.returns-in-None-clause-order
returns-in-None-clause-order c = none_in_order

pub returns-in-None-clause-lawful : goal.returns-in-None-clause-lawful
returns-in-None-clause-lawful c uid =
    c.record_is_lawful.ensures.lawful (certificates_in c.args.self.now.keyring.now) c.args.self.now.keyring.now.verdicts
    c.args.self.now.network.now.time uid (named_certs c.args.self.now.keyring.now.certs c.ordered.ensures.named)
