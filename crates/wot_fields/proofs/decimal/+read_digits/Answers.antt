use Rattle.std.proofs.Common.{arith, refl}
use Rattle.wot_fields.proofs.Numerals.{too_large}
use Rattle.wot_fields.proofs.decimal.+read_digits.Goals as goal

pub returns-then-more-from-clause-read : goal.returns-then-more-from-clause-read
returns-then-more-from-clause-read t c =
    rw (too_large c.args.most c.args.value c.args.digits.now c.in-len1-up.len_at_least (cc) (omega arith)) refl
