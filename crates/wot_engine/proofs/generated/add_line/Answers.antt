use Rattle.std.proofs.lemmas.Result.{on_ok_weaker}
use Rattle.wot_policy.specs.Kept.{rows_of}
use Rattle.wot_machine.specs.Machine.{kept}
use Rattle.wot_engine.proofs.Plays.{adds_both}
use Rattle.wot_engine.proofs.generated.add_line.Goals as goal

pub returns-clause-added : goal.returns-clause-added
returns-clause-added g c =
    on_ok_weaker c.add_told.result
    (adds_both (rows_of c.args.policy.now) c.args.line.now (kept c.args.machine.now) (kept c.add_reply.new.machine)
    (kept c.add_told.new.machine)
    c.args.shelf.now.world c.add_reply.new.shelf.world c.args.shelf.now.faults c.add_reply.new.shelf.faults
    c.args.tally.now c.add_reply.new.tally
    c.add_told.new.tally c.in_ok-add_reply.ensures.added) c.add_told.ensures.added
