use Rattle.std.proofs.Common.{◌≤◌}
use Rattle.std.specs.List.{AllByRecursion}
use Rattle.wot_cache.specs.Basis.{IsPresent}
use Rattle.wot_cache.specs.State.{StaysButMarks, state_of}
use Rattle.wot_plain.specs.Watching.{IsWatchLine}
use Rattle.wot_watch_commands.proofs.WatchEdges.{MakesSoFar}
use Rattle.wot_watch_commands.proofs.WatchesOnce.{CountsSoFar}
use Rattle.wot_watch_commands.proofs.WatchesSettled.{SettlesSoFar}
use Rattle.wot_plain.proofs.Watched.{AreSoFar}
use Rattle.wot_watch_commands.proofs.watching.watch_lines.Given as goal

abbrev pub invariant-rest : goal.invariant-rest
invariant-rest l =
    (goal.iterator-rest).can_next l.rest
    × (goal.iterator-rest).is_finite l.rest
    × AreSoFar (state_of l.fn.engine) l.fn.watches l.rest l.lines.items
    × AllByRecursion IsWatchLine l.lines.items
    × StaysButMarks l.fn.engine l.engine
    × (l.fn.steps.made ≤ l.steps.made)
    × IsPresent l.fn.engine l.basis
    × SettlesSoFar l.fn.engine l.basis l.fn.watches l.rest l.lines.items
    × MakesSoFar l.fn.engine l.fn.steps.made l.fn.watches l.rest l.engine l.steps.made
    × CountsSoFar l.fn.engine l.fn.steps.made l.fn.watches l.rest l.engine l.steps.made
