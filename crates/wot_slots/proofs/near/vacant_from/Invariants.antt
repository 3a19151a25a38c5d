use Rattle.std.proofs.Common.{◌≤◌, ◌-◌}
use Rattle.wot_slots.proofs.near.vacant_from.Given as goal

abbrev pub invariant-near : goal.invariant-near
invariant-near g l = l.from ≤ l.at

abbrev pub decreases-near : goal.decreases-near
decreases-near g l = l.end - l.at
