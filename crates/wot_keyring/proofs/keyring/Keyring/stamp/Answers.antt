use Rattle.wot_keyring_spec.proofs.Stamps.{stamp_found, stamp_absent}
use Rattle.wot_keyring.proofs.keyring.Keyring.stamp.Goals as goal

pub returns-in-Some-clause-absent : goal.returns-in-Some-clause-absent
returns-in-Some-clause-absent c =
    rw (← c.self.view_is) (stamp_absent _ c.in-Some.kept.now c.in-Some.ensures.found
    (stamp_found _ _ _ c.in-Some.kept.now c.self.invariant.0.stamped c.in-Some.ensures.found).0)

pub returns-in-Some-clause-past : goal.returns-in-Some-clause-past
returns-in-Some-clause-past c =
    rw (← c.self.view_is) ((stamp_found _ _ _ c.in-Some.kept.now c.self.invariant.0.stamped c.in-Some.ensures.found).1)
