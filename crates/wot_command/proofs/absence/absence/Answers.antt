use Rattle.std.proofs.Common.{Option, refl, rules}
use Rattle.wot_script.specs.declared.reply.Reply.{Reply}
use Rattle.wot_cache.specs.declared.view.View.{View}
use Rattle.wot_cache.specs.Marks.{IsRefreshed}
use Rattle.wot_cache.specs.State.{state_of}
use Rattle.wot_cache.specs.Views.{view_at}
use Rattle.wot_plain.specs.Absent.{Misses}
use Rattle.wot_plain.proofs.Faults.{refreshed_refused, unopened}
use Rattle.wot_command.proofs.absence.absence.Goals as goal

pub returns-in-Err-clause-misses : goal.returns-in-Err-clause-misses
returns-in-Err-clause-misses c =
    let asked = c.args.asked.now in
    unopened c.parts.result c.reply_to.result c.from.result c.in-Err.fault
    (view_at c.args.engine.now.views c.args.view.now)
    (λ (v : Option View) (reply : Reply). Misses (state_of c.args.engine.now) v asked.target.now asked.wanted
    asked.uid.now reply)
    c.from.ensures c.reply_to.ensures.reply c.in-Err.ensures.open refl

pub returns-in-Err-clause-refreshed : goal.returns-in-Err-clause-refreshed
returns-in-Err-clause-refreshed c =
    let asked = c.args.asked.now in
    let made : IsRefreshed c.parts.result c.args.view.now c.args.engine.now c.parts.follows.lender-at-none
    c.args.steps.now.made c.parts.new.steps.made = search rules in
    refreshed_refused c.parts.result c.reply_to.result c.from.result c.in-Err.fault c.args.view.now c.args.engine.now
    c.parts.follows.lender-at-none c.args.steps.now.made c.parts.new.steps.made c.from.ensures
    c.reply_to.ensures.reply c.in-Err.ensures.open made
