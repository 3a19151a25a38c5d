use Rattle.std.proofs.Common.{◌≡◌, ◌++◌, ℕ, List, length}
use Rattle.std.specs.List.{AllByRecursion}
use Rattle.wot_component.specs.Fitting.{PartFits}
use Rattle.wot_component.specs.Text.{parts_text}
use Rattle.wot_cert.proofs.export.append_parts.Given as goal

abbrev pub invariant-rest : goal.invariant-rest
invariant-rest l = record {
  fit : AllByRecursion PartFits l.rest;
  grown : (done : List ℕ) × (l.out.items ≡ l.initial.out.items ++ done)
      × (done ++ parts_text l.kind l.rest ≡ parts_text l.kind l.parts);
}

abbrev pub decreases-rest : goal.decreases-rest
decreases-rest l = length l.rest
