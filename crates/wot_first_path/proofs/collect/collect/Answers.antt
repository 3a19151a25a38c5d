use Rattle.std.proofs.Common.{sym, ◌∙◌, arith}
use Rattle.wot_first_path.specs.Reached.{look}
use Rattle.wot_first_path.proofs.SuffixByEdges.{left_more, left_none, left_done}
use Rattle.wot_first_path.proofs.collect.collect.Goals as goal

pub edges-preserved : goal.edges-preserved
edges-preserved c quest good steps kept long there =
    left_more quest good (look c.args.nodes.now) c.edges.steps.items c.push.new.self.items c.edges.at c.edges._i steps
    c.in-Some.node (c.edges.invariant quest good steps kept long there) (omega (arith, c.edges-test.true, long))
    (sym c.node_at.ensures ∙ c.in-Some.is) c.in_ok-push-in-Some.ensures.items

pub returns-in-None : goal.returns-in-None
returns-in-None c quest good steps kept long there =
    left_none quest good (look c.args.nodes.now) c.edges.steps.items c.edges.at c.edges._i steps
    (c.edges.invariant quest good steps kept long there) (omega (arith, c.edges-test.true, long))
    (sym c.node_at.ensures ∙ c.in-None.is)

pub returns : goal.returns
returns c quest good steps kept long there =
    left_done quest good (look c.args.nodes.now) c.edges.steps.items c.edges.at c.edges._i steps
    (c.edges.invariant quest good steps kept long there) (omega (arith, c.edges-test.false, long))
