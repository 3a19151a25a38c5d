use Rattle.std.proofs.Common.{length}
use Rattle.wot_cache.specs.Basis.{IsFreeOf}
use Rattle.wot_cache.proofs.basis.is_free_of.Given as goal

abbrev pub invariant-rest : goal.invariant-rest
invariant-rest l = IsFreeOf l.set.keys l.rest → IsFreeOf l.set.keys l.changed

abbrev pub decreases-rest : goal.decreases-rest
decreases-rest l = length l.rest
