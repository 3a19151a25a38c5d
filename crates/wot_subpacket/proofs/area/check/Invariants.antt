use Rattle.std.proofs.Common.{length}
use Rattle.wot_subpacket.proofs.ReadFromStart.{Decided}
use Rattle.wot_subpacket.proofs.area.check.Given as goal

abbrev pub invariant-walk : goal.invariant-walk
invariant-walk l = Decided l.bytes l.rest

abbrev pub decreases-walk : goal.decreases-walk
decreases-walk l = length l.rest
