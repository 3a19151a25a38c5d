use Rattle.std.proofs.Common.{refl}
use Rattle.wot_answers.proofs.Grounds.{good_now, right_now}
use Rattle.wot_answers.proofs.answers.KeptAnswer.is_good.Goals as goal

pub returns-clause-good : goal.returns-clause-good
returns-clause-good c =
    let k = c.args.keyring.now in
    let roots = c.args.roots.now in
    let old = c.args.self.now in
    let here = right_now c.later_is_order.ensures.itself k roots old c.requires.right
    (c.all_still.ensures.still c.if-not-all_still.false) in
    good_now k roots c.args.revision old (record old { count = c.changes-count.result; revision = c.args.revision }) refl
    c.changes-count.ensures.changes refl here

pub returns-clause-now : goal.returns-clause-now
returns-clause-now c network =
    right_now c.later_is_order.ensures.itself c.args.keyring.now c.args.roots.now c.args.self.now c.requires.right
    (c.all_still.ensures.still c.if-not-all_still.false)
