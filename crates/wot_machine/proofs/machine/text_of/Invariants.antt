use Rattle.std.proofs.Common.{◌≡◌, ◌++◌, length}
use Rattle.std.specs.List.{AllByRecursion}
use Rattle.wot_plain.specs.Transcript.{octets_of}
use Rattle.wot_plain.specs.Watching.{IsWatchLine}
use Rattle.wot_machine.proofs.machine.text_of.Given as goal

abbrev pub invariant-rest : goal.invariant-rest
invariant-rest l = (l.text.items ++ octets_of l.rest ≡ octets_of l.fn.lines) × AllByRecursion IsWatchLine l.rest

abbrev pub decreases-rest : goal.decreases-rest
decreases-rest l = length l.rest
