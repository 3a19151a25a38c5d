use Rattle.std.proofs.Common.{◌-◌, length}
use Rattle.std.specs.Io.KnownBytes.{Consumes}
use Rattle.wot_certd.proofs.writing.read_all.Given as goal

-- what was read so far, and then what is left, was left at first
abbrev pub invariant-loop-piece : goal.invariant-loop-piece
invariant-loop-piece g l = Consumes (g.F.Read.remaining l.fn.file) (g.F.Read.remaining l.file) l.octets.items

abbrev pub decreases-loop-piece : goal.decreases-loop-piece
decreases-loop-piece g l = 8388609 - length l.octets.items
