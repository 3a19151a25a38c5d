use Rattle.std.proofs.Common.{sym, ap, subst, ◌∙◌}
use Rattle.wot_auth.specs.declared.answer.Answer.{Answer}
use Rattle.wot_answers.specs.declared.answers.KeptAnswer.{KeptAnswer}
use Rattle.wot_answers.specs.Asked.{IsAnswered}
use Rattle.wot_answers.specs.RightLaws.{of_question}
use Rattle.wot_answers.proofs.answers.KeptAnswer.give.Goals as goal

pub returns-in-Ok-clause-answered : goal.returns-in-Ok-clause-answered
returns-in-Ok-clause-answered c =
    let p = c.args.parts.now in
    let asked = c.args.asked.now in
    let here = of_question p.keyring.now p.roots.now c.args.self.now asked.target.now asked.wanted asked.uid.now p.t
    (c.is_of.ensures.same c.if-not-is_of.false) (c.is_good.ensures.now c.if-not-is_good.false) in
    subst (λ (a : Answer). IsAnswered p asked a)
    (sym (c.in-Ok.ensures.same ∙ ap (λ (a : KeptAnswer). a.answer) c.is_good.ensures.same))
    (record { answer = here; sum = c.requires.right.sum })
