use Rattle.std.proofs.Common.{arith}
use Rattle.wot_reply_lines.proofs.ClaimTexts.{claim_printed}
use Rattle.wot_reply_lines.proofs.laws.claim_is_read.Goals as goal

pub returns : goal.returns
returns c = claim_printed c.args.claim.now c.requires (rw c.from.ensures at c.positive_is_read.ensures.read)
    (omega arith) (rw c.items.ensures.whole at c.steps_are_read.ensures)
