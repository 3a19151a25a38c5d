use Rattle.std.proofs.Common.{arith}
use Rattle.wot_reply_lines.proofs.ClaimTexts.{step_printed}
use Rattle.wot_reply_lines.proofs.laws.step_is_read.Goals as goal

pub returns : goal.returns
returns c = step_printed c.args.step.now c.printed_is_read.ensures.read_back c.decimal_is_read.ensures (omega arith)
