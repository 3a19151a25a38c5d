use Rattle.std.proofs.Common.{◌≤◌, arith}
use Rattle.wot_check.proofs.Sums.{use_more, below_more}
use Rattle.wot_check.proofs.using.add.Goals as goal

pub returns-clause-used : goal.returns-clause-used
returns-clause-used c paths e =
    use_more c.args.used.now c.add.new.self c.args.path.now c.in_ok-add.ensures.pairs c.in_ok-add.ensures.roots paths e

pub returns-clause-below : goal.returns-clause-below
returns-clause-below c most b =
    let small : c.args.path.now.amount ≤ 255 = omega arith in
    below_more c.args.used.now c.add.new.self c.args.path.now c.in_ok-add.ensures.pairs c.in_ok-add.ensures.roots small
    most b
