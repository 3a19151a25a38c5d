use Rattle.std.proofs.Common.{◌≡◌, ◌⊎◌, IsSome, length}
use Rattle.std.specs.BTreeMap.{is_at}
use Rattle.std.specs.Map.{lookup}
use Rattle.wot_edge.specs.declared.path.Step.{Step}
use Rattle.wot_edge.specs.declared.used.Pair.{Pair}
use Rattle.wot_edge.specs.Record.{Has}
use Rattle.wot_edge.specs.Sums.{sum_at, pair_cmp, pair_of}
use Rattle.wot_edge.proofs.pairs.make_rooms.Given as goal

abbrev pub invariant-rest : goal.invariant-rest
invariant-rest l = record {
  same : (q : Pair) → sum_at pair_cmp l.pairs.entries q ≡ sum_at pair_cmp l.fn.pairs.entries q;
  here : (step : Step) → Has l.steps step
      → Has l.rest step ⊎ IsSome (lookup (is_at (pair_cmp (pair_of step))) l.pairs.entries);
}

abbrev pub decreases-rest : goal.decreases-rest
decreases-rest l = length l.rest
