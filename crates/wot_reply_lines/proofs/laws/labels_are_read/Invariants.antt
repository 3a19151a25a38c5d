use Rattle.std.proofs.Common.{take}
use Rattle.std.specs.List.{AllByRecursion}
use Rattle.wot_reply_lines.specs.ClaimLaws.{IsLabelPrinted}
use Rattle.wot_reply_lines.proofs.laws.labels_are_read.Given as goal

abbrev pub invariant-loop-label : goal.invariant-loop-label
invariant-loop-label l = AllByRecursion IsLabelPrinted (take l.label-index l.labels)
