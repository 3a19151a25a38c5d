use Rattle.std.proofs.Common.{sym, add-one, arith}
use Rattle.wot_fields.proofs.FirstSeparator.{cut_nowhere, cut_there, take_behind}
use Rattle.wot_fields.proofs.fields.cut_at.Goals as goal

pub returns-then-octet-separator : goal.returns-then-octet-separator
returns-then-octet-separator c =
    rw take_behind
    (rw add-one (sym
    (cut_there c.args.separator c.args.text.now c.loop-offset.offset c.loop-offset-test.true
    c.if-octet-separator.true c.loop-offset.invariant)))

pub returns : goal.returns
returns c = sym
    (cut_nowhere c.args.separator c.args.text.now
    (λ j h. c.loop-offset.invariant j (omega (arith, h, c.loop-offset-test.false))))
