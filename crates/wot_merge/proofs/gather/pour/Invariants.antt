use Rattle.std.proofs.Common.{◌++◌, length}
use Rattle.std.specs.Map.{values_of}
use Rattle.wot_merge.specs.Gather.{AreOwn}
use Rattle.wot_merge.proofs.GatheredMerges.{IsPoured}
use Rattle.wot_merge.proofs.gather.pour.Given as goal

abbrev pub invariant-from : goal.invariant-from
invariant-from l = record {
  own : AreOwn l.certs.entries;
  poured : IsPoured (values_of l.initial.certs.entries ++ values_of l.initial.from.entries) l.certs.entries
      l.from.entries;
}

abbrev pub decreases-from : goal.decreases-from
decreases-from l = length l.from.entries
