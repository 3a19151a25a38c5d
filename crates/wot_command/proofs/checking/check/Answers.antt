use Rattle.std.proofs.Common.{Option, refl, rules}
use Rattle.wot_script.specs.declared.reply.Reply.{Reply}
use Rattle.wot_cache.specs.declared.view.View.{View}
use Rattle.wot_cache.specs.Marks.{IsRefreshed}
use Rattle.wot_cache.specs.State.{state_of}
use Rattle.wot_plain.specs.Absent.{Checks}
use Rattle.wot_plain.proofs.Faults.{refreshed_refused, unopened}
use Rattle.wot_cache.specs.Views.{view_at}
use Rattle.wot_plain.proofs.Absences.{checks_shown}
use Rattle.wot_command.proofs.checking.check.Goals as goal

pub returns-in-Ok-clause-checks : goal.returns-in-Ok-clause-checks
returns-in-Ok-clause-checks c =
    let claim = c.args.claim.now in
    checks_shown c.args.engine.now (view_at c.args.engine.now.views c.args.view.now) c.in-Ok.parts claim.target.now
    claim.claims.now claim.labels.now claim.uid.now c.check_from.result c.in-Ok.ensures.parts
    c.check_from.ensures.checks

pub returns-in-Err-clause-checks : goal.returns-in-Err-clause-checks
returns-in-Err-clause-checks c =
    let claim = c.args.claim.now in
    unopened c.parts.result c.reply_to.result c.from.result c.in-Err.fault
    (view_at c.args.engine.now.views c.args.view.now)
    (λ (v : Option View) (reply : Reply). Checks (state_of c.args.engine.now) v claim.target.now claim.claims.now
    claim.labels.now claim.uid.now reply)
    c.from.ensures c.reply_to.ensures.reply c.in-Err.ensures.open refl

pub returns-in-Err-clause-refreshed : goal.returns-in-Err-clause-refreshed
returns-in-Err-clause-refreshed c =
    let made : IsRefreshed c.parts.result c.args.view.now c.args.engine.now c.parts.follows.lender-at-none
    c.args.steps.now.made c.parts.new.steps.made = search rules in
    refreshed_refused c.parts.result c.reply_to.result c.from.result c.in-Err.fault c.args.view.now c.args.engine.now
    c.parts.follows.lender-at-none c.args.steps.now.made c.parts.new.steps.made c.from.ensures
    c.reply_to.ensures.reply c.in-Err.ensures.open made
