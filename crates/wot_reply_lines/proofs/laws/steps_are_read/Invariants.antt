use Rattle.std.proofs.Common.{take}
use Rattle.std.specs.List.{AllByRecursion}
use Rattle.wot_reply_lines.specs.ClaimLaws.{IsStepPrinted}
use Rattle.wot_reply_lines.proofs.laws.steps_are_read.Given as goal

abbrev pub invariant-loop-step : goal.invariant-loop-step
invariant-loop-step l = AllByRecursion IsStepPrinted (take l.step-index l.steps)
