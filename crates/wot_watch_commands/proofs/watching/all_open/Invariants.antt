use Rattle.wot_watch_commands.specs.Settled.{AreOpen}
use Rattle.wot_watch_commands.proofs.watching.all_open.Given as goal

abbrev pub invariant-rest : goal.invariant-rest
invariant-rest l =
    (goal.iterator-rest).can_next l.rest
    × (goal.iterator-rest).is_finite l.rest
    × (AreOpen l.fn.engine l.rest → AreOpen l.fn.engine l.fn.watches)
