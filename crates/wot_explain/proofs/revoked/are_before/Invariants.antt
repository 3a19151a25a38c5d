use Rattle.std.proofs.Common.{◌≡◌, ◌++◌, List, length}
use Rattle.std.specs.Prelude.{◌||◌, not, nat_lt}
use Rattle.std.specs.List.{list_all}
use Rattle.wot_component.specs.Certificate.{Signature}
use Rattle.wot_cert.specs.Revoked.{revokes_by}
use Rattle.wot_cert.specs.Time.{made_of}
use Rattle.wot_explain.proofs.revoked.are_before.Given as goal

abbrev pub invariant-back : goal.invariant-back
invariant-back l = (seen : List Signature) × (l.sigs ≡ l.rest ++ seen)
    × (l.all ≡ list_all (λ r. not (revokes_by l.verdicts.entries l.fpr l.t r) || nat_lt (made_of r) l.then) seen)

abbrev pub decreases-back : goal.decreases-back
decreases-back l = length l.rest
