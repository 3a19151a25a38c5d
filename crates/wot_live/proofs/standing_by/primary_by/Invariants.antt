use Rattle.std.proofs.Common.{◌≡◌, ◌++◌, List, length}
use Rattle.std.specs.Option.{option_copied}
use Rattle.wot_edge.specs.declared.edge.EdgeFacts.{EdgeFacts}
use Rattle.wot_live.specs.SelfCertified.{primary_by}
use Rattle.wot_live.proofs.standing_by.primary_by.Given as goal

abbrev pub invariant-back : goal.invariant-back
invariant-back l =
    (seen : List EdgeFacts) × (l.edges ≡ l.rest ++ seen) × (option_copied l.best ≡ primary_by l.cert seen)

abbrev pub decreases-back : goal.decreases-back
decreases-back l = length l.rest
