use Rattle.std.proofs.Common.{refl}
use Rattle.wot_watch_commands.proofs.WatchEdges.{made_for}
use Rattle.wot_watch_commands.proofs.watching.watch_line.Goals as goal

pub returns-then-amount-told-clause-makes : goal.returns-then-amount-told-clause-makes
returns-then-amount-told-clause-makes c =
    made_for _ _ (λ ok. refl) c.args.watch.now c.view.result.now c.wanted.result c.args.engine.now
    c.amount_of.new.engine c.args.steps.now.made
    c.amount_of.new.steps.made c.view.ensures.view c.wanted.ensures.wanted c.in_ok-amount.ensures.asked
    c.in_ok-amount.ensures.unasked

pub returns-in_err-duplicate-in-Some-clause-makes : goal.returns-in_err-duplicate-in-Some-clause-makes
returns-in_err-duplicate-in-Some-clause-makes c =
    made_for _ _ (λ ok. refl) c.args.watch.now c.view.result.now c.wanted.result c.args.engine.now
    c.amount_of.new.engine c.args.steps.now.made
    c.amount_of.new.steps.made c.view.ensures.view c.wanted.ensures.wanted c.in_ok-amount.ensures.asked
    c.in_ok-amount.ensures.unasked

pub returns-in_ok-duplicate-in-Some-clause-makes : goal.returns-in_ok-duplicate-in-Some-clause-makes
returns-in_ok-duplicate-in-Some-clause-makes c =
    made_for _ _ (λ ok. refl) c.args.watch.now c.view.result.now c.wanted.result c.args.engine.now
    c.amount_of.new.engine c.args.steps.now.made
    c.amount_of.new.steps.made c.view.ensures.view c.wanted.ensures.wanted c.in_ok-amount.ensures.asked
    c.in_ok-amount.ensures.unasked
