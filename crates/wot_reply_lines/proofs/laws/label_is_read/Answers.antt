use Rattle.std.proofs.Common.{arith}
use Rattle.wot_reply_lines.proofs.ClaimTexts.{label_printed}
use Rattle.wot_reply_lines.proofs.laws.label_is_read.Goals as goal

pub returns : goal.returns
returns c = label_printed c.args.label.now c.printed_is_read.ensures.read_back
    (rw c.from.ensures at c.positive_is_read.ensures.read) (omega arith)
