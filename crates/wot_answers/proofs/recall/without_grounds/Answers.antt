use Rattle.std.proofs.Common.{None}
use Rattle.wot_answers.specs.CaseLaws.{if_ok}
use Rattle.wot_answers.proofs.Grounds.{found_by_all, found_now, right_without}
use Rattle.wot_answers.proofs.recall.without_grounds.Goals as goal

pub returns : goal.returns
returns c =
    let p = c.args.parts.now in
    let asked = c.args.asked.now in
    record {
      right = if_ok c.kept_now.result _ _ (λ kept is.
          right_without p asked c.args.answer.now kept is c.requires.answered) c.kept_now.ensures.kept;
      found = if_ok c.kept_now.result _ _ (λ kept is.
          found_now p asked c.args.answer.now None kept is c.requires.answered) c.kept_now.ensures.kept;
      by = if_ok c.kept_now.result _ _ (λ kept is. found_by_all p asked c.args.answer.now kept is)
          c.kept_now.ensures.kept;
    }
