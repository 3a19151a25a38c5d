use Rattle.std.proofs.Common.{sym, subst, ◌∙◌, refl}
use Rattle.wot_edge.specs.declared.edge.EdgeFacts.{EdgeFacts}
use Rattle.wot_edge.specs.Record.{Has}
use Rattle.wot_reach.specs.Reach.{number_at}
use Rattle.wot_reach.proofs.Enough.{allowed_more, allowed_end, all_allowed}
use Rattle.wot_edge.specs.RowLaws.{has_at, edge_known}
use Rattle.wot_reach.proofs.reach.has_enough.Goals as goal

pub allows-requires : goal.allows-requires
allows-requires g c =
    let edges = c.rows-edges.result.now in
    let x = c.edge-item.result in
    let has = subst (λ (e : EdgeFacts). Has edges e) (sym c.edge-item.is)
    (has_at edges c.edges.edge-index x c.edges-test.true) in
    record {
      row = λ id.
          (edge_known (g.R.Roads.network c.args.roads.now) c.rows-edges.ensures.lawful c.args.fpr.now edges
          c.rows-edges.ensures.rows x has id).0;
    }

pub edges-preserved : goal.edges-preserved
edges-preserved g c =
    allowed_more (g.R.Roads.network c.args.roads.now) (number_at c.args.reach.now) c.get-number.result
    c.rows-edges.result.now c.edges.edge-index c.edge-item.result
    c.edges-test.true c.edge-item.is c.edges.invariant (c.if-not-allows.ensures.allows refl)

pub returns : goal.returns
returns g c =
    let network = g.R.Roads.network c.args.roads.now in
    let number = number_at c.args.reach.now in
    record {
      enough = λ yes.
          all_allowed network c.args.roots.now number c.args.fpr.now c.get-number.result c.rows-edges.result.now
          c.rows-edges.ensures.rows c.rows-edges.ensures.lawful
          c.get-number.ensures.number (λ some. sym c.get-number.ensures.number ∙ c.if-is_low_root.ensures.low refl some)
          (allowed_end network number c.get-number.result c.rows-edges.result.now c.edges.edge-index c.edges-test.false
          c.edges.invariant);
    }
