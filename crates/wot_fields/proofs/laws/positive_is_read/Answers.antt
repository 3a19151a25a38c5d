use Rattle.std.proofs.Common.{arith}
use Rattle.wot_fields.proofs.Numerals.{positive_up_to-decimal}
use Rattle.wot_fields.proofs.laws.positive_is_read.Goals as goal

pub returns-clause-read : goal.returns-clause-read
returns-clause-read c = positive_up_to-decimal c.args.most c.args.number (omega arith) c.requires.some c.requires.within
