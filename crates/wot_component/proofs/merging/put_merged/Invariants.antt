use Rattle.std.proofs.Common.{◌+◌, length}
use Rattle.wot_component.proofs.Walk.{Walk}
use Rattle.wot_component.proofs.merging.put_merged.Given as goal

abbrev pub invariant-walk : goal.invariant-walk
invariant-walk g l = Walk g.T.Ranked.rank g.T.Ranked.join l.a l.b l.out.items l.left l.right

abbrev pub decreases-walk : goal.decreases-walk
decreases-walk g l = length l.left + length l.right
