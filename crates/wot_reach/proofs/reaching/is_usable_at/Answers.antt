use Rattle.std.proofs.Common.{sym, subst}
use Rattle.wot_edge.specs.declared.edge.EdgeFacts.{EdgeFacts}
use Rattle.wot_edge.specs.Record.{Has}
use Rattle.wot_edge.specs.RowLaws.{has_at, edge_known}
use Rattle.wot_reach.proofs.reaching.is_usable_at.Goals as goal

pub usable-requires : goal.usable-requires
usable-requires g c =
    let edges = c.rows-edges.result.now in
    let x = c.index-edges-row.result in
    let has = subst (λ (e : EdgeFacts). Has edges e) (sym c.index-edges-row.is)
    (has_at edges _ x c.if-row-edges.false) in
    record {
      row = λ id.
          (edge_known (g.R.Roads.network c.args.roads.now) c.rows-edges.ensures.lawful c.args.fpr.now edges
          c.rows-edges.ensures.rows x has id).0;
    }
