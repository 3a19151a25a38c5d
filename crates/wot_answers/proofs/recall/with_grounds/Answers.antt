use Rattle.std.proofs.Common.{Some}
use Rattle.wot_answers.specs.CaseLaws.{if_ok}
use Rattle.wot_answers.proofs.Grounds.{found_by, found_now, right_with}
use Rattle.wot_answers.proofs.recall.with_grounds.Goals as goal

pub returns : goal.returns
returns c =
    let p = c.args.parts.now in
    let asked = c.args.asked.now in
    let looked = c.in_ok-looked.looked in
    record {
      right = if_ok c.kept_now.result _ _ (λ kept is.
          right_with c.records_agree.ensures.local p asked c.args.answer.now looked c.args.consulted.now kept is
          c.len-count.ensures.stamped c.in_ok-looked.ensures.looked (c.later_is_order.ensures.itself p.keyring.now)
          c.len-count.ensures.whole c.requires.answered c.requires.consulted) c.kept_now.ensures.kept;
      found = if_ok c.kept_now.result _ _ (λ kept is.
          found_now p asked c.args.answer.now (Some looked) kept is c.requires.answered) c.kept_now.ensures.kept;
      by = if_ok c.kept_now.result _ _ (λ kept is.
          found_by p asked c.args.answer.now looked c.args.consulted.now kept is c.in_ok-looked.ensures.looked
          c.requires.consulted) c.kept_now.ensures.kept;
    }
