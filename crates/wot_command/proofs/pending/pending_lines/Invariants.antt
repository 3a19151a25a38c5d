use Rattle.std.proofs.Common.{◌≡◌, ◌++◌, length, map}
use Rattle.wot_plain.specs.Listing.{pending_line}
use Rattle.wot_command.proofs.pending.pending_lines.Given as goal

abbrev pub invariant-sigs : goal.invariant-sigs
invariant-sigs l = l.lines ++ map pending_line l.left ≡ map pending_line l.fn.sigs

abbrev pub decreases-sigs : goal.decreases-sigs
decreases-sigs l = length l.left
