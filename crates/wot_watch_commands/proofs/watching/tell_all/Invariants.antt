use Rattle.std.proofs.Common.{◌≡◌, length}
use Rattle.wot_plain.specs.Watching.{told_all}
use Rattle.wot_watch_commands.proofs.watching.tell_all.Given as goal

abbrev pub invariant-rest : goal.invariant-rest
invariant-rest l = told_all l.watches l.rest ≡ told_all l.fn.watches l.fn.lines

abbrev pub decreases-rest : goal.decreases-rest
decreases-rest l = length l.rest
