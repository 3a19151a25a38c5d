use Rattle.std.proofs.Common.{◌≡◌, ◌≤◌, [], length, reverse, take, drop, vec_len, vec_capacity}
use Rattle.wot_pattern.specs.Nodes.{tokens_of}
use Rattle.wot_pattern.specs.Passes.{settled, behind}
use Rattle.wot_pattern.proofs.closure.closure.Given as goal

abbrev pub invariant-loop-at : goal.invariant-loop-at
invariant-loop-at l =
    (settled l.first l.last (tokens_of l.nodes) l.fn.slots [] ≡ behind (take l.at l.slots)
    (settled l.first l.last (tokens_of (drop l.at l.nodes)) (drop l.at l.slots) (reverse l.ready.items)))
    × (length l.slots ≡ length l.nodes) × (vec_len l.ready ≤ l.at) × (vec_capacity l.fn.ready ≤ vec_capacity l.ready)
