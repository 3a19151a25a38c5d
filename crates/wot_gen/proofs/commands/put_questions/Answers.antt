use Rattle.std.proofs.Common.{arith, length}
use Rattle.wot_gen.specs.Script.{questions}
use Rattle.wot_gen.proofs.CommandsAppended.{identity_read, step_more}
use Rattle.wot_gen.proofs.commands.put_questions.Goals as goal

pub loop-index-preserved : goal.loop-index-preserved
loop-index-preserved c = λ start all.
    let index = c.loop-index.index in
    let is = identity_read start (length c.args.identities.now) c.args.identities.now index
    c.index-identities-index.result all (omega arith) c.index-identities-index.is in
    step_more (questions start) index c.args.commands.now.items c.loop-index.commands.items
    c.put_both.new.commands.items (c.loop-index.invariant start all) (c.in_ok-put_both.ensures.put start index is)
