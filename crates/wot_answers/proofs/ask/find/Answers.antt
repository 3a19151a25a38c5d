use Rattle.wot_answers.specs.Asked.{IsFoundOver}
use Rattle.wot_answers.proofs.WereKept.{kept_further, kept_on, over_carries}
use Rattle.wot_answers.proofs.ask.find.Goals as goal

pub returns-in-Ok-clause-kept : goal.returns-in-Ok-clause-kept
returns-in-Ok-clause-kept c =
    let p = c.args.parts.now in
    let asked = c.args.asked.now in
    let Found = IsFoundOver p asked in
    let old = c.args.of_view.now.entries in
    let mid = c.answer_from_kept.new.of_view.entries in
    kept_further Found (over_carries p asked) old mid c.search_near.new.of_view.entries
    (kept_on Found old c.take_roots.new.self.entries mid c.take_roots.ensures.kept c.answer_from_kept.ensures.kept)
    c.search_near.ensures.kept

pub returns-in-Err-clause-kept : goal.returns-in-Err-clause-kept
returns-in-Err-clause-kept c =
    let p = c.args.parts.now in
    let asked = c.args.asked.now in
    let Found = IsFoundOver p asked in
    let old = c.args.of_view.now.entries in
    let mid = c.answer_from_kept.new.of_view.entries in
    kept_further Found (over_carries p asked) old mid c.search_near.new.of_view.entries
    (kept_on Found old c.take_roots.new.self.entries mid c.take_roots.ensures.kept c.answer_from_kept.ensures.kept)
    c.search_near.ensures.kept
