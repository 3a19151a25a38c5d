use Rattle.std.proofs.Common.{length}
use Rattle.std.specs.List.{AllByRecursion}
use Rattle.wot_component.specs.Fitting.{SigFits}
use Rattle.wot_component.specs.Sizes.{sig_size}
use Rattle.wot_component.proofs.Follows.{Before}
use Rattle.wot_component.proofs.measure.with_sigs.Given as goal

abbrev pub invariant-rest : goal.invariant-rest
invariant-rest l = record {
  fit : AllByRecursion SigFits l.rest;
  before : Before (λ _. 1) (λ _. 1) sig_size l.initial.sum l.sum l.sigs l.rest;
}

abbrev pub decreases-rest : goal.decreases-rest
decreases-rest l = length l.rest
