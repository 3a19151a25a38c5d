use Rattle.std.proofs.Common.{◌≡◌, ◌++◌, List, length}
use Rattle.std.specs.Option.{option_copied}
use Rattle.wot_component.specs.Certificate.{Component}
use Rattle.wot_standing.specs.Standing.{primary_among}
use Rattle.wot_standing.proofs.newest.primary.Given as goal

abbrev pub invariant-back : goal.invariant-back
invariant-back l =
    (seen : List Component) × (l.user_ids ≡ l.rest ++ seen)
    × (option_copied l.best ≡ primary_among l.verdicts.entries l.fpr l.t seen)

abbrev pub decreases-back : goal.decreases-back
decreases-back l = length l.rest
