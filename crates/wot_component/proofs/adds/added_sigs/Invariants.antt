use Rattle.std.proofs.Common.{◌+◌, length}
use Rattle.wot_component.proofs.AddingSigs.{SigsAdding}
use Rattle.wot_component.proofs.adds.added_sigs.Given as goal

abbrev pub invariant-walk : goal.invariant-walk
invariant-walk l = SigsAdding l.adds l.a l.b l.left l.right

abbrev pub decreases-walk : goal.decreases-walk
decreases-walk l = length l.left + length l.right
