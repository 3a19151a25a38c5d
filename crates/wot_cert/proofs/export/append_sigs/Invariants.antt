use Rattle.std.proofs.Common.{◌≡◌, ◌++◌, ℕ, List, length}
use Rattle.std.specs.List.{AllByRecursion}
use Rattle.wot_component.specs.Fitting.{SigFits}
use Rattle.wot_component.specs.Text.{sigs_text}
use Rattle.wot_cert.proofs.export.append_sigs.Given as goal

abbrev pub invariant-rest : goal.invariant-rest
invariant-rest l = record {
  fit : AllByRecursion SigFits l.rest;
  grown : (done : List ℕ) × (l.out.items ≡ l.initial.out.items ++ done) × (done ++ sigs_text l.rest ≡ sigs_text l.sigs);
}

abbrev pub decreases-rest : goal.decreases-rest
decreases-rest l = length l.rest
