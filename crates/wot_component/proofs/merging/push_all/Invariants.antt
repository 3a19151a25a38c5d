use Rattle.std.proofs.Common.{◌≡◌, ◌++◌, length}
use Rattle.wot_component.proofs.merging.push_all.Given as goal

abbrev pub invariant-rest : goal.invariant-rest
invariant-rest g l = l.out.items ++ l.rest ≡ l.fn.out.items ++ l.items

abbrev pub decreases-rest : goal.decreases-rest
decreases-rest g l = length l.rest
