use Rattle.std.proofs.Common.{length}
use Rattle.wot_slots.specs.Near.{SaysSame}
use Rattle.wot_slots.proofs.moving.bring_all.Given as goal

abbrev pub invariant-numbers : goal.invariant-numbers
invariant-numbers g l = SaysSame l.initial.longer.items l.initial.rest.entries l.longer.items l.rest.entries

abbrev pub decreases-numbers : goal.decreases-numbers
decreases-numbers g l = length l.left
