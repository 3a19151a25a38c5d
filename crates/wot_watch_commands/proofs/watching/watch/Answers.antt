use Rattle.wot_plain.specs.Session.{session_of}
use Rattle.wot_watch_commands.proofs.watching.watch.Goals as goal

pub returns-in-Off-clause-sets : goal.returns-in-Off-clause-sets
returns-in-Off-clause-sets c =
    rw c.in-Off.is (λ cursors. c.off.ensures.watching (session_of c.args.engine.now cursors))
