use Rattle.std.proofs.Common.{length}
use Rattle.std.specs.List.{AllByRecursion}
use Rattle.wot_component.specs.Fitting.{PartFits}
use Rattle.wot_component.specs.Sizes.{part_items, part_signatures, part_size}
use Rattle.wot_component.proofs.Follows.{Before}
use Rattle.wot_component.proofs.measure.with_parts.Given as goal

abbrev pub invariant-rest : goal.invariant-rest
invariant-rest l = record {
  fit : AllByRecursion PartFits l.rest;
  before : Before part_items part_signatures part_size l.initial.sum l.sum l.parts l.rest;
}

abbrev pub decreases-rest : goal.decreases-rest
decreases-rest l = length l.rest
