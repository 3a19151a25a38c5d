use Rattle.std.proofs.Common.{arith}
use Rattle.wot_fields.proofs.Numerals.{decimal_up_to-decimal}
use Rattle.wot_fields.proofs.laws.decimal_is_read.Goals as goal

pub returns : goal.returns
returns c = decimal_up_to-decimal c.args.most c.args.number (omega arith) c.requires
