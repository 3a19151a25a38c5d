use Rattle.std.proofs.Common.{◌≡◌, ◌≤◌, ◌++◌, length}
use Rattle.std.specs.List.{flat_map, AllByRecursion}
use Rattle.wot_edge.specs.declared.path.Path.{Path}
use Rattle.wot_cache.specs.State.{state_of}
use Rattle.wot_plain.specs.Answer.{path_lines}
use Rattle.wot_command.proofs.answer.amount_reply.Given as goal

abbrev pub invariant-paths : goal.invariant-paths
invariant-paths l =
    (l.lines ++ flat_map (path_lines (state_of l.fn.engine)) l.left ≡ flat_map (path_lines (state_of l.fn.engine))
    l.fn.answer.paths)
    × AllByRecursion (λ (p : Path). length p.steps ≤ 255) l.left

abbrev pub decreases-paths : goal.decreases-paths
decreases-paths l = length l.left
