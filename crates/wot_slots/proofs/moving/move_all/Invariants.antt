use Rattle.std.proofs.Common.{◌-◌, length}
use Rattle.wot_slots.specs.Near.{HasMoved}
use Rattle.wot_slots.proofs.moving.move_all.Given as goal

abbrev pub invariant-entries : goal.invariant-entries
invariant-entries g l = HasMoved l.at l.near.came l.near.items l.longer.items l.initial.rest.entries l.rest.entries

abbrev pub decreases-entries : goal.decreases-entries
decreases-entries g l = length l.near.came - l.at
