use Rattle.wot_types.specs.Fpr.{digits_of, octets_of}
use Rattle.std.specs.Fmt.{decimal}
use Rattle.wot_fields.specs.Uid.{escaped}
use Rattle.wot_reply_lines.proofs.Questions.{question_reads}
use Rattle.wot_fields.proofs.Spaceless.{spaceless_decimal, spaceless_digits}
use Rattle.wot_reply_lines.proofs.laws.question_is_read.Goals as goal

pub returns-clause-read : goal.returns-clause-read
returns-clause-read c =
    question_reads (digits_of c.args.fpr.now) (decimal c.args.wanted) (escaped c.args.uid.now) c.args.uid.now
    c.args.fpr.now c.args.wanted (spaceless_digits (octets_of c.args.fpr.now)) c.printed_is_read.ensures.read_back
    (spaceless_decimal c.args.wanted c.positive_is_read.ensures.small) c.positive_is_read.ensures.read
    (rw c.octets.ensures.whole at c.uid_is_read.ensures)
