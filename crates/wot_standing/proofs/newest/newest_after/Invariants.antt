use Rattle.std.proofs.Common.{◌≡◌, ◌++◌, List, length}
use Rattle.std.specs.Prelude.{filter}
use Rattle.std.specs.Option.{option_copied}
use Rattle.wot_component.specs.Certificate.{Signature}
use Rattle.wot_component.specs.Ranked.{greatest}
use Rattle.wot_cert.specs.Time.{newness}
use Rattle.wot_standing.specs.Latest.{is_valid_after}
use Rattle.wot_standing.proofs.newest.newest_after.Given as goal

abbrev pub invariant-back : goal.invariant-back
invariant-back l =
    (seen : List Signature) × (l.sigs ≡ l.rest ++ seen)
    × (option_copied l.best
    ≡ greatest newness (filter (is_valid_after l.verdicts.entries l.fpr l.t l.binding l.revoked) seen))

abbrev pub decreases-back : goal.decreases-back
decreases-back l = length l.rest
