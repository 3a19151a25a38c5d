use Rattle.wot_answers.specs.Asked.{IsFoundOver}
use Rattle.wot_answers.proofs.WereKept.{kept_further, kept_or, over_carries}
use Rattle.wot_answers.proofs.ask.answer_from_kept.Goals as goal

pub returns-clause-kept : goal.returns-clause-kept
returns-clause-kept c =
    let p = c.args.parts.now in
    let asked = c.args.asked.now in
    let Found = IsFoundOver p asked in
    let old = c.args.of_view.now.entries in
    let mid = c.give.new.self.entries in
    kept_further Found (over_carries p asked) old mid c.remember_now.new.of_view.entries
    (kept_or Found old mid c.give.ensures.kept) c.remember_now.ensures.kept
