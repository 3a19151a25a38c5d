use Rattle.std.proofs.Common.{◌≡◌, Option, Some, refl, rules}
use Rattle.wot_script.specs.declared.reply.Reply.{Reply}
use Rattle.wot_cache.specs.declared.view.View.{View}
use Rattle.wot_cache.specs.Marks.{IsRefreshed}
use Rattle.wot_cache.specs.State.{state_of}
use Rattle.wot_cache.specs.Views.{view_at}
use Rattle.std.specs.Prelude.{IfSome}
use Rattle.wot_command.specs.EdgeLines.{MarksEdges}
use Rattle.wot_plain.specs.Listing.{explained_from}
use Rattle.wot_plain.proofs.Faults.{on_unopened, refreshed_refused, unopened}
use Rattle.wot_command.proofs.EdgeLines.{marks_seen, replies_seen}
use Rattle.wot_command.proofs.reasons.explain.Goals as goal

pub returns-in-Ok-clause-explains : goal.returns-in-Ok-clause-explains
returns-in-Ok-clause-explains c =
    replies_seen c.explain_from.result c.args.engine.now c.args.view.now c.in-Ok.parts c.args.fpr.now c.args.uid.now
    c.in-Ok.ensures.parts
    c.explain_from.ensures.explains

pub returns-in-Ok-clause-edges : goal.returns-in-Ok-clause-edges
returns-in-Ok-clause-edges c =
    marks_seen c.explain_from.result c.args.engine.now c.args.view.now c.in-Ok.parts c.args.fpr.now c.args.uid.now
    c.in-Ok.ensures.parts
    c.explain_from.ensures.edges

pub returns-in-Err-clause-explains : goal.returns-in-Err-clause-explains
returns-in-Err-clause-explains c =
    unopened c.parts.result c.reply_to.result c.from.result c.in-Err.fault (view_at c.args.engine.now.views c.args.view.now)
    (λ (v : Option View) (reply : Reply). reply ≡ explained_from (state_of c.args.engine.now) v c.args.fpr.now c.args.uid.now)
    c.from.ensures c.reply_to.ensures.reply c.in-Err.ensures.open refl

pub returns-in-Err-clause-refreshed : goal.returns-in-Err-clause-refreshed
returns-in-Err-clause-refreshed c =
    let made : IsRefreshed c.parts.result c.args.view.now c.args.engine.now c.parts.follows.lender-at-none
    c.args.steps.now.made c.parts.new.steps.made = search rules in
    refreshed_refused c.parts.result c.reply_to.result c.from.result c.in-Err.fault c.args.view.now c.args.engine.now
    c.parts.follows.lender-at-none c.args.steps.now.made c.parts.new.steps.made c.from.ensures
    c.reply_to.ensures.reply c.in-Err.ensures.open made

pub returns-in-Err-clause-edges : goal.returns-in-Err-clause-edges
returns-in-Err-clause-edges c =
    on_unopened c.parts.result c.reply_to.result c.from.result c.in-Err.fault (view_at c.args.engine.now.views c.args.view.now)
    (λ (o : Option View). IfSome o (λ (v : View). MarksEdges c.args.engine.now.keyring v.time c.args.fpr.now
    c.args.uid.now (explained_from (state_of c.args.engine.now) (Some v) c.args.fpr.now c.args.uid.now)))
    c.from.ensures c.reply_to.ensures.reply c.in-Err.ensures.open tt
