use Rattle.std.proofs.Common.{sym, subst, arith}
use Rattle.wot_edge.specs.declared.edge.EdgeFacts.{EdgeFacts}
use Rattle.wot_edge.specs.Record.{Has}
use Rattle.wot_reach.specs.Reach.{number_of}
use Rattle.wot_edge.specs.RowLaws.{has_at, edge_known}
use Rattle.wot_reach.proofs.EdgesThatLead.{lead_start, lead_more, lead_end}
use Rattle.wot_reach.proofs.onward.onward_of.Goals as goal

pub put_if-requires-clause-row : goal.put_if-requires-clause-row
put_if-requires-clause-row g c id =
    let edges = c.rows-edges.result.now in
    let x = c.index-edges-place.result in
    let has = subst (λ (e : EdgeFacts). Has edges e) (sym c.index-edges-place.is)
    (has_at edges _ x c.places-test.true) in
    (edge_known (g.R.Roads.network c.args.roads.now) c.rows-edges.ensures.lawful c.args.fpr.now edges
    c.rows-edges.ensures.rows x has id).0

pub places-init : goal.places-init
places-init g c =
    lead_start (g.R.Roads.network c.args.roads.now) (number_of c.args.numbers.now.entries) c.args.fpr.now
    c.rows-edges.result.now c.new-onward.result
    c.new-onward.ensures.fpr c.new-onward.ensures.edges

pub places-preserved : goal.places-preserved
places-preserved g c =
    lead_more (g.R.Roads.network c.args.roads.now) (number_of c.args.numbers.now.entries) c.args.fpr.now
    c.rows-edges.result.now c.places.onward c.put_if.new.onward
    c.places.place c.index-edges-place.result c.places-test.true c.index-edges-place.is c.places.invariant
    c.in_ok-put_if.ensures.adds

pub returns : goal.returns
returns g c = record {
  leads =
      lead_end (g.R.Roads.network c.args.roads.now) (number_of c.args.numbers.now.entries) c.args.fpr.now
      c.rows-edges.result.now c.places.onward c.places.place
      c.rows-edges.ensures.rows (omega (arith, c.places-test.false)) c.places.invariant;
}
