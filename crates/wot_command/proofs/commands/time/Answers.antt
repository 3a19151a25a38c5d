use Rattle.std.proofs.Common.{ap}
use Rattle.wot_types.specs.Limits.{standard_limits}
use Rattle.wot_cache.specs.State.{state_of, timing}
use Rattle.wot_cache.specs.Views.{time_fault}
use Rattle.wot_plain.proofs.Results.{if_ok}
use Rattle.wot_command.proofs.RefusedReplies.{view_gives}
use Rattle.wot_command.proofs.commands.time.Goals as goal

pub returns-in-Err-clause-gives : goal.returns-in-Err-clause-gives
returns-in-Err-clause-gives c =
    if_ok c.reply_to.result _ _ (λ reply is.
    view_gives (state_of c.args.engine.now) (state_of c.view_time.new.self)
    (timing c.args.view.now c.args.t (state_of c.args.engine.now))
    (time_fault standard_limits c.args.engine.now.views c.args.view.now) c.in-Err.fault reply
    (rw c.requires.standard at c.in-Err.ensures.fault) (ap state_of c.in-Err.ensures.kept) is) c.reply_to.ensures.reply
