use Rattle.std.proofs.Common.{ap, arith}
use Rattle.std.specs.Prelude.{is_ok}
use Rattle.wot_cache.specs.State.{state_of}
use Rattle.wot_cache.specs.Views.{view_at}
use Rattle.wot_plain.proofs.EdgesMadeByLine.{refreshed_as, refreshed_fault, refreshed_unopened}
use Rattle.wot_watch_commands.proofs.WatchesSettled.{sum_has}
use Rattle.wot_watch_commands.proofs.watching.amount_of.Goals as goal

pub returns-in-Ok-clause-amount : goal.returns-in-Ok-clause-amount
returns-in-Ok-clause-amount c =
    let asked = c.args.asked.now in
    let a = c.args in
    let some = c.if-wanted-eq0.false in
    sum_has (state_of a.engine.now) (view_at a.engine.now.views c.args.view.now) asked.target.now asked.wanted
    asked.uid.now c.in-Ok.sum
    (omega (arith, some)) c.in-Ok.ensures.open c.in-Ok.ensures.rested.sum

pub returns-in-Ok-clause-rests : goal.returns-in-Ok-clause-rests
returns-in-Ok-clause-rests c = λ some. c.in-Ok.ensures.rested.rests

pub returns-in-Ok-clause-nothing : goal.returns-in-Ok-clause-nothing
returns-in-Ok-clause-nothing c = λ none. let some = c.if-wanted-eq0.false in absurd (omega (arith, none, some))

pub returns-in-Ok-clause-stays : goal.returns-in-Ok-clause-stays
returns-in-Ok-clause-stays c = c.sum.ensures.refreshed.stays

pub returns-in-Err-View-clause-stays : goal.returns-in-Err-View-clause-stays
returns-in-Err-View-clause-stays c = c.sum.ensures.refreshed.stays

pub returns-in-Err-Memory-clause-stays : goal.returns-in-Err-Memory-clause-stays
returns-in-Err-Memory-clause-stays c = c.sum.ensures.refreshed.stays

-- ---- made edges

pub returns-in-Ok-clause-asked : goal.returns-in-Ok-clause-asked
returns-in-Ok-clause-asked c = λ some.
    let asked = c.args.asked.now in
    refreshed_as c.sum.result _ (λ ok. ap is_ok c.in-Ok.is) c.args.view.now c.args.engine.now c.sum.new.self
    c.args.steps.now.made c.sum.new.steps.made c.sum.ensures.refreshed

pub returns-in-Err-View-clause-asked : goal.returns-in-Err-View-clause-asked
returns-in-Err-View-clause-asked c = λ some.
    let asked = c.args.asked.now in
    refreshed_unopened c.sum.result _ c.args.view.now c.args.engine.now c.sum.new.self c.args.steps.now.made
    c.sum.new.steps.made
    (rw c.in-Err-View.field-0-is at c.in-Err-View.ensures.open) c.sum.ensures.refreshed

pub returns-in-Err-Memory-clause-asked : goal.returns-in-Err-Memory-clause-asked
returns-in-Err-Memory-clause-asked c = λ some.
    let asked = c.args.asked.now in
    refreshed_fault c.sum.result _ c.args.view.now c.args.engine.now c.sum.new.self c.args.steps.now.made
    c.sum.new.steps.made c.sum.ensures.refreshed

pub returns-in-Ok-clause-unasked : goal.returns-in-Ok-clause-unasked
returns-in-Ok-clause-unasked c = λ none. let some = c.if-wanted-eq0.false in absurd (omega (arith, none, some))

pub returns-in-Err-View-clause-unasked : goal.returns-in-Err-View-clause-unasked
returns-in-Err-View-clause-unasked c = λ none. let some = c.if-wanted-eq0.false in absurd (omega (arith, none, some))

pub returns-in-Err-Memory-clause-unasked : goal.returns-in-Err-Memory-clause-unasked
returns-in-Err-Memory-clause-unasked c = λ none. let some = c.if-wanted-eq0.false in absurd (omega (arith, none, some))
