use Rattle.std.proofs.Common.{sym, subst}
use Rattle.wot_answers.specs.Answers.{AllAnswers, AreAllRight}
use Rattle.wot_answers.specs.RightLaws.{all_right_put}
use Rattle.wot_answers.proofs.recall.put.Goals as goal

pub returns-in-Ok-clause-right : goal.returns-in-Ok-clause-right
returns-in-Ok-clause-right c k all right =
    subst (λ (views : AllAnswers). AreAllRight k views) (sym c.in-Ok.ensures.entries)
    (all_right_put k c.args.answers.now.entries c.args.view c.args.of_view all right)
