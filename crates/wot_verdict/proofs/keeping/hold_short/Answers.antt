use Rattle.std.proofs.Common.{Some, ap, ◌∙◌}
use Rattle.wot_verdict.specs.Kept.{verdict_in}
use Rattle.wot_verdict.proofs.Changed.{either_way, entries_same, kept_same, numbers_kept, numbers_still, said_still}
use Rattle.wot_verdict.proofs.Changed.{on_err_of, on_ok, says_same, shorts_at, shorts_still}
use Rattle.wot_verdict.proofs.keeping.hold_short.Goals as goal

pub returns-clause-held : goal.returns-clause-held
returns-clause-held c =
    on_ok _ _ c.keep.result (λ put. shorts_at c.args.held.now c.keep.new.held c.args.number (Some c.with_holder.result)
    put (Some c.args.short) c.with_holder.ensures.holder) c.keep.ensures.put

pub returns-clause-same : goal.returns-clause-same
returns-clause-same c =
    on_err_of _ _ c.keep.result (λ same. shorts_still c.args.held.now c.keep.new.held same) c.keep.ensures.kept

pub returns-clause-verdicts : goal.returns-clause-verdicts
returns-clause-verdicts c =
    let old = c.args.held.now in
    let new = c.keep.new.held in
    either_way _ _ _ c.keep.result
    (λ put. entries_same old new (says_same old new c.args.number (Some c.with_holder.result) put
    (c.with_holder.ensures.verdict ∙ ap verdict_in c.get-old.ensures.held)))
    (λ same. entries_same old new (said_still old new same))
    c.keep.ensures.put c.keep.ensures.kept

pub returns-clause-kept : goal.returns-clause-kept
returns-clause-kept c =
    let old = c.args.held.now in
    let new = c.keep.new.held in
    either_way _ _ _ c.keep.result
    (λ put. kept_same old new (says_same old new c.args.number (Some c.with_holder.result) put
    (c.with_holder.ensures.verdict ∙ ap verdict_in c.get-old.ensures.held))
    (numbers_still old new c.args.number (Some c.with_holder.result) put (λ there. c.number_is_whole.ensures.whole)))
    (λ same. kept_same old new (said_still old new same) (numbers_kept old new same))
    c.keep.ensures.put c.keep.ensures.kept
