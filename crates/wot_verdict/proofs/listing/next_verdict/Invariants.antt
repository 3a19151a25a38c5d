use Rattle.std.proofs.Common.{length}
use Rattle.wot_slots.specs.Above.{entries_above}
use Rattle.wot_verdict.proofs.Passing.{HasPassed}
use Rattle.wot_verdict.proofs.listing.next_verdict.Given as goal

abbrev pub invariant-numbers : goal.invariant-numbers
invariant-numbers l = HasPassed l.held l.fn.last l.at

abbrev pub decreases-numbers : goal.decreases-numbers
decreases-numbers l = length (entries_above l.at l.held)
