use Rattle.std.proofs.Common.{Option, ap, refl}
use Rattle.std.specs.Prelude.{is_ok}
use Rattle.wot_cache.specs.declared.view.View.{View}
use Rattle.wot_cache.specs.Question.{question_in}
use Rattle.wot_cache.specs.State.{state_of}
use Rattle.wot_cache.specs.Views.{view_at}
use Rattle.wot_script.specs.declared.reply.Reply.{Reply}
use Rattle.wot_plain.specs.Answer.{Asks}
use Rattle.wot_plain.proofs.Faults.{refreshed_refused, unopened}
use Rattle.wot_plain.proofs.EdgesMadeByLine.{refreshed_as, same_state}
use Rattle.wot_command.proofs.Short.{answer_asks, answer_short}
use Rattle.wot_command.proofs.answer.ask.Goals as goal

pub amount_reply-requires-clause-few : goal.amount_reply-requires-clause-few
amount_reply-requires-clause-few c =
    let asked = c.args.asked.now in
    answer_short (view_at c.args.engine.now.views c.args.view.now)
    (λ (v : View). question_in (state_of c.args.engine.now) v asked.target.now asked.uid.now) asked.wanted
    c.in-Ok.answer.paths c.in-Ok.ensures.open c.in-Ok.ensures.answer

pub returns-in-Ok-clause-asks : goal.returns-in-Ok-clause-asks
returns-in-Ok-clause-asks c =
    let asked = c.args.asked.now in
    answer_asks (state_of c.args.engine.now) (state_of c.ask.new.self)
    (view_at c.args.engine.now.views c.args.view.now) asked.target.now asked.wanted asked.uid.now
    c.in-Ok.answer.paths c.amount_reply.result c.in-Ok.ensures.open c.in-Ok.ensures.answer
    (same_state c.args.engine.now c.ask.new.self c.ask.ensures.refreshed.stays) c.amount_reply.ensures.reported

pub returns-in-Ok-clause-keyring : goal.returns-in-Ok-clause-keyring
returns-in-Ok-clause-keyring c = c.ask.ensures.refreshed.stays.keyring

pub returns-in-Ok-clause-views : goal.returns-in-Ok-clause-views
returns-in-Ok-clause-views c = c.ask.ensures.refreshed.stays.views

pub returns-in-Ok-clause-refreshed : goal.returns-in-Ok-clause-refreshed
returns-in-Ok-clause-refreshed c =
    let asked = c.args.asked.now in
    refreshed_as c.ask.result c.amount_reply.result (λ ok. ap is_ok c.in-Ok.is) c.args.view.now c.args.engine.now
    c.ask.new.self
    c.args.steps.now.made
    c.ask.new.steps.made c.ask.ensures.refreshed

pub returns-in-Err-clause-asks : goal.returns-in-Err-clause-asks
returns-in-Err-clause-asks c =
    let asked = c.args.asked.now in
    unopened c.ask.result c.reply_to.result c.from.result c.in-Err.fault
    (view_at c.args.engine.now.views c.args.view.now)
    (λ (v : Option View) (reply : Reply). Asks (state_of c.args.engine.now) v asked.target.now asked.wanted
    asked.uid.now reply) c.from.ensures c.reply_to.ensures.reply c.in-Err.ensures.open refl

pub returns-in-Err-clause-keyring : goal.returns-in-Err-clause-keyring
returns-in-Err-clause-keyring c = c.ask.ensures.refreshed.stays.keyring

pub returns-in-Err-clause-views : goal.returns-in-Err-clause-views
returns-in-Err-clause-views c = c.ask.ensures.refreshed.stays.views

pub returns-in-Err-clause-refreshed : goal.returns-in-Err-clause-refreshed
returns-in-Err-clause-refreshed c =
    let asked = c.args.asked.now in
    refreshed_refused c.ask.result c.reply_to.result c.from.result c.in-Err.fault c.args.view.now c.args.engine.now
    c.ask.new.self c.args.steps.now.made c.ask.new.steps.made c.from.ensures c.reply_to.ensures.reply
    c.in-Err.ensures.open c.ask.ensures.refreshed
