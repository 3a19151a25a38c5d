use Rattle.std.proofs.Common.{◌≤◌, length}
use Rattle.std.specs.List.{AllByRecursion}
use Rattle.wot_plain.specs.Watching.{IsWatchLine}
use Rattle.wot_engine.proofs.Plays.{AddsUpTo}
use Rattle.wot_engine.proofs.generated.add_all.Given as goal

abbrev pub invariant-rest : goal.invariant-rest
invariant-rest l = record {
  added : AddsUpTo l.fn.tally l.tally l.fn.lines l.rest;
  amounts : l.tally.amounts ≤ l.fn.tally.amounts;
  each : AllByRecursion IsWatchLine l.rest;
}

abbrev pub decreases-rest : goal.decreases-rest
decreases-rest l = length l.rest
