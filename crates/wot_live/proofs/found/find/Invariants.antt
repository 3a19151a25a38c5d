use Rattle.std.proofs.Common.{◌≡◌, ◌≤◌, ◌++◌, List, length}
use Rattle.std.specs.List.{AllByRecursion}
use Rattle.wot_component.specs.Certificate.{Component}
use Rattle.wot_component.specs.Counts.{part_weight, sum_of}
use Rattle.wot_live.specs.Found.{HasFew}
use Rattle.wot_live.proofs.Finding.{AreNewestFrom, HasNoneBelow}
use Rattle.wot_live.proofs.found.find.Given as goal

abbrev pub invariant-back : goal.invariant-back
invariant-back l = record {
  seen : List Component;
  all : l.cert.user_ids ≡ l.rest ++ seen;
  few : AllByRecursion HasFew l.rest;
  none : HasNoneBelow (length l.rest) l.found;
  newest : AreNewestFrom l.verdicts.entries l.t (length l.rest) seen l.found;
  count : length l.found ≤ sum_of (part_weight (λ _. 1) (λ _. 0)) seen;
}

abbrev pub decreases-back : goal.decreases-back
decreases-back l = length l.rest
