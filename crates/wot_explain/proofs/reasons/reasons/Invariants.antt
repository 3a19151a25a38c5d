use Rattle.std.proofs.Common.{◌≡◌, ◌++◌, length, map}
use Rattle.std.specs.Prelude.{filter}
use Rattle.wot_explain.specs.Reasons.{reason_of}
use Rattle.wot_explain.specs.Explaining.{reasons_on}
use Rattle.wot_keyring_spec.specs.Keyring.{certificates_in}
use Rattle.wot_standing.specs.Kinds.{is_certification}
use Rattle.wot_explain.proofs.reasons.reasons.Given as goal

abbrev pub invariant-rest : goal.invariant-rest
invariant-rest l =
    l.items.items ++ map (reason_of l.keyring.verdicts (certificates_in l.keyring) l.t l.target l.place l.uid)
    (filter is_certification l.rest)
    ≡ reasons_on l.keyring.verdicts (certificates_in l.keyring) l.t l.target l.place l.uid

abbrev pub decreases-rest : goal.decreases-rest
decreases-rest l = length l.rest
