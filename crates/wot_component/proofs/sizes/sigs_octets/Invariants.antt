use Rattle.std.proofs.Common.{◌≡◌, ◌+◌, length}
use Rattle.std.specs.List.{AllByRecursion}
use Rattle.wot_component.specs.Counts.{sum_of}
use Rattle.wot_component.specs.Fitting.{SigFits}
use Rattle.wot_component.specs.Sizes.{sig_size}
use Rattle.wot_component.proofs.sizes.sigs_octets.Given as goal

abbrev pub invariant-rest : goal.invariant-rest
invariant-rest l = record {
  fit : AllByRecursion SigFits l.rest;
  counted : l.octets + sum_of sig_size l.rest ≡ sum_of sig_size l.sigs;
}

abbrev pub decreases-rest : goal.decreases-rest
decreases-rest l = length l.rest
