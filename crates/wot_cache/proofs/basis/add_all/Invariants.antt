use Rattle.std.proofs.Common.{List, length}
use Rattle.wot_types.specs.declared.fpr.Fpr.{Fpr}
use Rattle.wot_cache.specs.Basis.{AllIn, Includes}
use Rattle.wot_cache.proofs.basis.add_all.Given as goal

abbrev pub invariant-rest : goal.invariant-rest
invariant-rest l = record {
  all : (fprs : List Fpr) → Includes l.set.keys fprs → AllIn fprs l.rest → AllIn fprs l.looked;
  grows : Includes l.fn.set.keys l.set.keys;
}

abbrev pub decreases-rest : goal.decreases-rest
decreases-rest l = length l.rest
