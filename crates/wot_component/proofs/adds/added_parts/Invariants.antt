use Rattle.std.proofs.Common.{◌+◌, length}
use Rattle.wot_component.proofs.AddingParts.{PartsAdding}
use Rattle.wot_component.proofs.adds.added_parts.Given as goal

abbrev pub invariant-walk : goal.invariant-walk
invariant-walk l = PartsAdding l.adds l.a l.b l.left l.right

abbrev pub decreases-walk : goal.decreases-walk
decreases-walk l = length l.left + length l.right
