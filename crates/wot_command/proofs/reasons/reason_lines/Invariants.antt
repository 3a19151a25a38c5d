use Rattle.std.proofs.Common.{◌≡◌, ◌++◌, length, map}
use Rattle.wot_plain.specs.Listing.{reason_line}
use Rattle.wot_command.proofs.reasons.reason_lines.Given as goal

abbrev pub invariant-reasons : goal.invariant-reasons
invariant-reasons l = l.lines ++ map reason_line l.left ≡ map reason_line l.fn.reasons

abbrev pub decreases-reasons : goal.decreases-reasons
decreases-reasons l = length l.left
