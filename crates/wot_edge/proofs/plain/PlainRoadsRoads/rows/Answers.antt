use Rattle.std.proofs.Common.{◌∙◌, sym, subst, List}
use Rattle.std.specs.List.Sorted.{IsStrictlySortedBy}
use Rattle.wot_edge.specs.declared.edge.EdgeFacts.{EdgeFacts}
use Rattle.wot_edge.specs.Order.{edge_cmp}
use Rattle.wot_edge.proofs.PlainTold.{line_edges, no_edges, line_rows, told_is_record}
use Rattle.wot_edge.proofs.Recorded.{no_rows}
use Rattle.wot_edge.proofs.plain.PlainRoadsRoads.rows.Goals as goal

pub returns-in-Some-clause-rows : goal.returns-in-Some-clause-rows
returns-in-Some-clause-rows c uid =
    c.rows.ensures.rows
    ∙ sym (line_edges c.args.self.now uid c.args.target.now c.in-Some.line.now (sym c.in-Some.ensures.line))

pub returns-in-Some-clause-order : goal.returns-in-Some-clause-order
returns-in-Some-clause-order c =
    subst (λ (edges : List EdgeFacts). IsStrictlySortedBy edge_cmp edges) (sym c.rows.ensures.rows)
    (line_rows c.args.self.now.lines c.args.target.now c.in-Some.line.now c.line_at.ensures.lines
    (sym c.in-Some.ensures.line)).order

pub returns-in-Some-clause-lawful : goal.returns-in-Some-clause-lawful
returns-in-Some-clause-lawful c uid = told_is_record c.args.self.now uid c.line_at.ensures.lines

pub returns-in-None-clause-rows : goal.returns-in-None-clause-rows
returns-in-None-clause-rows c uid = sym (no_edges c.args.self.now uid c.args.target.now (sym c.in-None.ensures.line))

pub returns-in-None-clause-order : goal.returns-in-None-clause-order
returns-in-None-clause-order c = (no_rows c.args.target.now).order

pub returns-in-None-clause-lawful : goal.returns-in-None-clause-lawful
returns-in-None-clause-lawful c uid = told_is_record c.args.self.now uid c.line_at.ensures.lines
