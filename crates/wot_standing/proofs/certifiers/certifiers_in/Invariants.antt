use Rattle.std.proofs.Common.{◌≡◌, ◌++◌, length, map}
use Rattle.wot_standing.specs.Certifiers.{certifier_of}
use Rattle.wot_standing.proofs.certifiers.certifiers_in.Given as goal

abbrev pub invariant-rest : goal.invariant-rest
invariant-rest l =
    l.issuers.items ++ map (certifier_of l.verdicts.entries l.t) l.rest
    ≡ map (certifier_of l.verdicts.entries l.t) l.sigs

abbrev pub decreases-rest : goal.decreases-rest
decreases-rest l = length l.rest
