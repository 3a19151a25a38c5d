use Rattle.std.proofs.Common.{◌≡◌, ◌++◌}
use Rattle.std.specs.List.{flat_map}
use Rattle.wot_keyring_spec.specs.Keyring.{stripped}
use Rattle.wot_keyring_spec.specs.Pending.{pending_on}
use Rattle.wot_keyring_spec.proofs.pending.waiting.Given as goal

abbrev pub invariant-certs : goal.invariant-certs
invariant-certs l = l.list.items ++ flat_map (pending_on l.verdicts.entries) (stripped l.fpr-iterator) ≡ flat_map
    (pending_on l.verdicts.entries) (stripped l.certs.entries)
