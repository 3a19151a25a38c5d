use Rattle.std.proofs.Common.{◌≤◌, ◌-◌}
use Rattle.wot_slots.specs.Near.{HasNoneIn}
use Rattle.wot_slots.proofs.near.find.Given as goal

abbrev pub invariant-near : goal.invariant-near
invariant-near g l = record {
  from : l.place ≤ l.at;
  none : HasNoneIn l.number l.place l.at l.row.items;
}

abbrev pub decreases-near : goal.decreases-near
decreases-near g l = l.end - l.at
