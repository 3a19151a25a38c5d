-- The node for an edge that meets what is demanded of it, has enough left, and whose issuer is within its reach.
use Rattle.std.specs.Prelude.{ℕ, ◌+◌, nat_le, nat_lt, ◌&&◌, min, Bool, Option, Some, None, cond}
use Rattle.wot_edge.specs.declared.demand.Demand.{Demand}
use Rattle.wot_edge.specs.declared.edge.EdgeFacts.{EdgeFacts}
use Rattle.wot_edge.specs.Demand.{is_met}
use Rattle.wot_edge.specs.Path.{step_of, step_left}
use Rattle.wot_first_path.specs.declared.node.Node.{Node}
use Rattle.wot_first_path.specs.Quest.{Quest}

-- whether the residual amount of an edge is enough, and its issuer may come this far before the target
abbrev pub is_enough : Quest → ℕ → EdgeFacts → Bool
is_enough quest size edge =
    nat_le quest.least (step_left quest.used (step_of edge)) && nat_lt size (quest.reach edge.issuer)

-- the node for an edge in front of a suffix with this number of edges and this width
abbrev pub candidate_of : Quest → Demand → ℕ → ℕ → EdgeFacts → Option Node
candidate_of quest demand size width edge =
    cond (is_met quest.question.target demand edge && is_enough quest size edge)
    (Some (record { step = step_of edge; size = size + 1; width = min (step_left quest.used (step_of edge)) width }))
    None
