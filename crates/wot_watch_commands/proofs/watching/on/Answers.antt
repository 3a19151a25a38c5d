use Rattle.std.proofs.Common.{Option, ap, refl}
use Rattle.std.specs.Prelude.{is_ok}
use Rattle.wot_cache.specs.Views.{view_at}
use Rattle.wot_plain.specs.Session.{watched, session_of}
use Rattle.wot_script.specs.declared.reply.Reply.{Reply}
use Rattle.wot_cache.specs.declared.view.View.{View}
use Rattle.wot_cursor.specs.Cursors.{Cursors}
use Rattle.wot_plain.specs.Watching.{Opens}
use Rattle.wot_plain.proofs.Faults.{refreshed_refused, unopened}
use Rattle.wot_plain.proofs.EdgesMadeByLine.{refreshed_as}
use Rattle.wot_plain.proofs.Results.{if_ok}
use Rattle.wot_plain.proofs.Watched.{opens_answered}
use Rattle.wot_watch_commands.proofs.watching.on.Goals as goal

pub returns-in-Ok-clause-watching : goal.returns-in-Ok-clause-watching
returns-in-Ok-clause-watching c =
    let asked = c.args.asked.now in
    let a = c.args in
    if_ok c.begin.result _ _ (λ reply begins cursors.
    opens_answered
    (watched (session_of a.engine.now cursors) a.watches.now) a.name.now c.args.view.now asked.target.now asked.wanted
    asked.uid.now
    (view_at a.engine.now.views c.args.view.now)
    c.in-Ok.answer.paths c.in-Ok.answer.sum reply c.begin.new.watches c.requires.wanted c.in-Ok.ensures.open
    c.in-Ok.ensures.answer
    c.in-Ok.ensures.sum begins) c.begin.ensures.begins

pub returns-in-Ok-clause-stays : goal.returns-in-Ok-clause-stays
returns-in-Ok-clause-stays c = c.ask.ensures.refreshed.stays

pub returns-in-Ok-clause-refreshed : goal.returns-in-Ok-clause-refreshed
returns-in-Ok-clause-refreshed c =
    let asked = c.args.asked.now in
    refreshed_as c.ask.result c.begin.result
    (λ ok. ap is_ok c.in-Ok.is) c.args.view.now c.args.engine.now c.ask.new.self c.args.steps.now.made
    c.ask.new.steps.made c.ask.ensures.refreshed

pub returns-in-Err-clause-watching : goal.returns-in-Err-clause-watching
returns-in-Err-clause-watching c =
    let asked = c.args.asked.now in
    let a = c.args in
    unopened c.ask.result c.reply_to.result c.from.result c.in-Err.fault (view_at a.engine.now.views c.args.view.now)
    (λ (v : Option View) (reply : Reply). (cursors : Cursors) →
    Opens (watched (session_of a.engine.now cursors) a.watches.now) a.name.now c.args.view.now asked.target.now
    asked.wanted asked.uid.now v reply a.watches.now)
    c.from.ensures c.reply_to.ensures.reply c.in-Err.ensures.open (λ cursors. (refl, refl))

pub returns-in-Err-clause-stays : goal.returns-in-Err-clause-stays
returns-in-Err-clause-stays c = c.ask.ensures.refreshed.stays

pub returns-in-Err-clause-refreshed : goal.returns-in-Err-clause-refreshed
returns-in-Err-clause-refreshed c =
    let asked = c.args.asked.now in
    refreshed_refused c.ask.result c.reply_to.result c.from.result c.in-Err.fault c.args.view.now c.args.engine.now
    c.ask.new.self c.args.steps.now.made c.ask.new.steps.made c.from.ensures c.reply_to.ensures.reply
    c.in-Err.ensures.open c.ask.ensures.refreshed
