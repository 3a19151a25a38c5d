use Rattle.std.proofs.Common.{◌≡◌, ◌++◌, List, length}
use Rattle.wot_component.specs.Certificate.{Signature}
use Rattle.wot_standing.specs.Certifiers.{KeepsLatest, number_for}
use Rattle.wot_standing.proofs.certifiers.latest_revocations.Given as goal

abbrev pub invariant-back : goal.invariant-back
invariant-back l = record {
  seen : List Signature;
  all : l.sigs ≡ l.rest ++ seen;
  latest : KeepsLatest l.verdicts.entries l.t seen (number_for l.latest.entries);
}

abbrev pub decreases-back : goal.decreases-back
decreases-back l = length l.rest
