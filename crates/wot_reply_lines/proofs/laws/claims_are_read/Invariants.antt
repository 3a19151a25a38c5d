use Rattle.std.proofs.Common.{take}
use Rattle.std.specs.List.{AllByRecursion}
use Rattle.wot_reply_lines.specs.ClaimLaws.{IsClaimPrinted}
use Rattle.wot_reply_lines.proofs.laws.claims_are_read.Given as goal

abbrev pub invariant-loop-claim : goal.invariant-loop-claim
invariant-loop-claim l = AllByRecursion IsClaimPrinted (take l.claim-index l.claims)
