use Rattle.std.proofs.Common.{ap}
use Rattle.wot_types.specs.Limits.{standard_limits}
use Rattle.wot_cache.specs.State.{state_of, rooting}
use Rattle.wot_cache.specs.Views.{root_fault, view_at}
use Rattle.wot_plain.proofs.Results.{if_ok}
use Rattle.wot_command.proofs.RefusedReplies.{view_gives}
use Rattle.wot_command.proofs.commands.root.Goals as goal

pub returns-in-Err-clause-gives : goal.returns-in-Err-clause-gives
returns-in-Err-clause-gives c =
    if_ok c.reply_to.result _ _ (λ reply is.
    view_gives (state_of c.args.engine.now) (state_of c.view_root.new.self)
    (rooting c.args.view.now c.args.fpr.now c.args.amount (state_of c.args.engine.now))
    (root_fault standard_limits (view_at c.args.engine.now.views c.args.view.now) c.args.fpr.now c.args.amount)
    c.in-Err.fault reply
    (rw c.requires.standard at c.in-Err.ensures.fault) (ap state_of c.in-Err.ensures.kept) is) c.reply_to.ensures.reply
