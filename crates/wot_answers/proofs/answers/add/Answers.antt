use Rattle.std.proofs.Common.{subst, sym}
use Rattle.wot_answers.specs.Answers.{Entries, IsSameBut, WereKeptOr}
use Rattle.wot_answers.proofs.ConsultedTotal.{few_put, fewer, right_put}
use Rattle.wot_answers.proofs.WereKept.{kept_put}
use Rattle.wot_answers.proofs.answers.add.Goals as goal

pub overflow_sub-result : goal.overflow_sub-result
overflow_sub-result c =
    let e = fewer c.args.table.now.entries c.args.answer c.args.looked c.in-Ok.earlier c.replace.ensures.order
    c.requires.few c.in-Ok.ensures.earlier in
    rw c.count_looked-count.ensures.count e

pub returns-in-Ok-clause-few : goal.returns-in-Ok-clause-few
returns-in-Ok-clause-few c =
    rw c.in-Ok.ensures.entries (rw c.count_looked-count.ensures.count
    (few_put c.args.table.now.entries c.args.answer c.args.looked c.in-Ok.earlier c.replace.ensures.order c.requires.few
    c.in-Ok.ensures.earlier c.requires.room c.requires.fits))

pub returns-in-Ok-clause-right : goal.returns-in-Ok-clause-right
returns-in-Ok-clause-right c k roots revision all right good =
    rw c.in-Ok.ensures.entries (right_put k roots revision c.args.table.now.entries c.args.answer all right good)

pub returns-in-Ok-clause-kept : goal.returns-in-Ok-clause-kept
returns-in-Ok-clause-kept c =
    subst (λ (es : Entries). WereKeptOr (IsSameBut c.args.answer) c.args.table.now.entries es)
    (sym c.in-Ok.ensures.entries) (kept_put c.args.table.now.entries c.args.answer.key c.args.answer)
