use Rattle.std.proofs.Common.{sym}
use Rattle.wot_keyring_spec.specs.Keyring.{is_fpr}
use Rattle.wot_keyring.proofs.InvariantKept.{kept_small}
use Rattle.wot_keyring.proofs.Places.{found_named}
use Rattle.wot_keyring.proofs.keyring.Keyring.get.Goals as goal

pub returns-in-Some-clause-named : goal.returns-in-Some-clause-named
returns-in-Some-clause-named c = found_named c.args.fpr.now _ c.in-Some.kept.now c.self.invariant.0.named
    (sym c.in-Some.ensures.found)

pub returns-in-Some-clause-size : goal.returns-in-Some-clause-size
returns-in-Some-clause-size c = kept_small _ (is_fpr c.args.fpr.now) c.in-Some.kept.now c.self.invariant.0
    (sym c.in-Some.ensures.found)
