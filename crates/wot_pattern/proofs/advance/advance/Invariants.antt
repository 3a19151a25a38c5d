use Rattle.std.proofs.Common.{◌≡◌, ◌≤◌, ◌+◌, [], ◌∷◌, true, length, reverse, take, drop, vec_len, vec_capacity}
use Rattle.wot_pattern.specs.Nodes.{tokens_of}
use Rattle.wot_pattern.specs.Passes.{advanced}
use Rattle.wot_pattern.proofs.advance.advance.Given as goal

abbrev pub invariant-loop-at : goal.invariant-loop-at
invariant-loop-at l =
    (advanced l.character (tokens_of (drop l.at l.nodes)) (drop l.at l.fn.slots)
    (true ∷ []) ≡ (drop l.at l.slots, reverse l.begins.items))
    × (take l.at l.slots ≡ take l.at l.fn.slots) × (length l.slots ≡ length l.nodes)
    × (vec_len l.begins + l.at ≤ length l.nodes + 1)
    × (vec_capacity l.fn.begins ≤ vec_capacity l.begins)
