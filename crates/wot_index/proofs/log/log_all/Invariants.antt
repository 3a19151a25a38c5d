use Rattle.std.proofs.Common.{length}
use Rattle.wot_index.proofs.Logged.{LogsUpTo}
use Rattle.wot_index.proofs.log.log_all.Given as goal

abbrev pub invariant-left : goal.invariant-left
invariant-left l = record {
  logged : LogsUpTo l.stamp l.left l.certs l.initial.log l.log;
}

abbrev pub decreases-left : goal.decreases-left
decreases-left l = length l.left
