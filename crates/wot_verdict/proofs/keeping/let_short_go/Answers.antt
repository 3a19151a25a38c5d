use Rattle.std.proofs.Common.{ap, ◌∙◌}
use Rattle.wot_verdict.specs.Kept.{verdict_in}
use Rattle.wot_verdict.proofs.Changed.{entries_same, kept_same, numbers_lessened, says_same}
use Rattle.wot_verdict.proofs.keeping.let_short_go.Goals as goal

pub returns-clause-verdicts : goal.returns-clause-verdicts
returns-clause-verdicts c =
    entries_same c.args.held.now c.keep_left.new.held
    (says_same c.args.held.now c.keep_left.new.held c.args.number.now c.without_holder.result
    c.keep_left.ensures.put (c.without_holder.ensures.verdict ∙ ap verdict_in c.get-old.ensures.held))

pub returns-clause-kept : goal.returns-clause-kept
returns-clause-kept c =
    kept_same c.args.held.now c.keep_left.new.held
    (says_same c.args.held.now c.keep_left.new.held c.args.number.now c.without_holder.result
    c.keep_left.ensures.put (c.without_holder.ensures.verdict ∙ ap verdict_in c.get-old.ensures.held))
    (numbers_lessened c.args.held.now c.keep_left.new.held c.args.number.now c.without_holder.result
    c.keep_left.ensures.put c.get-old.result c.get-old.ensures.held c.without_holder.ensures.less)
