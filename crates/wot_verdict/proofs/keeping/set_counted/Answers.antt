use Rattle.std.proofs.Common.{◌+◌, Some, ap, cond, ◌∙◌, refl, is_some}
use Rattle.wot_verdict.specs.Kept.{short_in, verdict_in}
use Rattle.wot_verdict.proofs.Changed.{changes_at, entries_same, kept_same, kept_set, numbers_kept, numbers_still}
use Rattle.wot_verdict.proofs.Changed.{on_err, said_still, says_at, set_now, shorts_same}
use Rattle.wot_verdict.proofs.keeping.set_counted.Goals as goal

pub returns-in_err-keep-clause-kept : goal.returns-in_err-keep-clause-kept
returns-in_err-keep-clause-kept c =
    let same = c.in_err-keep.ensures.kept in
    kept_same c.args.held.now c.keep.new.held (said_still c.args.held.now c.keep.new.held same)
    (numbers_kept c.args.held.now c.keep.new.held same) c.args.count.now c.requires.kept

pub returns-in_err-keep-clause-same : goal.returns-in_err-keep-clause-same
returns-in_err-keep-clause-same c =
    on_err _ c.from_residual.result (entries_same c.args.held.now c.keep.new.held
    (said_still c.args.held.now c.keep.new.held c.in_err-keep.ensures.kept))

pub returns-clause-kept : goal.returns-clause-kept
returns-clause-kept c =
    let put = c.in_ok-keep.ensures.put in
    kept_set c.args.held.now c.keep.new.held c.args.number (Some c.args.verdict)
    (says_at c.args.held.now c.keep.new.held c.args.number (Some c.with_verdict.result) put (Some c.args.verdict)
    c.with_verdict.ensures.verdict)
    c.args.verdict refl
    (numbers_still c.args.held.now c.keep.new.held c.args.number (Some c.with_verdict.result) put
    (λ there. c.number_is_whole.ensures.whole) c.requires.kept.numbers)
    c.args.count.now c.count_with-counted.result c.requires.kept
    (c.count_with-counted.ensures.counted ∙ ap (λ o. cond (is_some o) c.args.count.now (c.args.count.now + 1))
    (c.verdict_of.ensures.verdict ∙ ap verdict_in c.requires.old))
    c.count_with-counted.ensures.few

pub returns-clause-set : goal.returns-clause-set
returns-clause-set c =
    set_now c.args.held.now c.keep.new.held c.args.number (Some c.args.verdict)
    (says_at c.args.held.now c.keep.new.held c.args.number (Some c.with_verdict.result) c.in_ok-keep.ensures.put
    (Some c.args.verdict) c.with_verdict.ensures.verdict)
    c.args.verdict refl

pub returns-clause-at_each : goal.returns-clause-at_each
returns-clause-at_each c =
    changes_at c.args.held.now c.keep.new.held c.args.number (Some c.args.verdict)
    (says_at c.args.held.now c.keep.new.held c.args.number (Some c.with_verdict.result) c.in_ok-keep.ensures.put
    (Some c.args.verdict) c.with_verdict.ensures.verdict)

pub returns-clause-holders : goal.returns-clause-holders
returns-clause-holders c =
    shorts_same c.args.held.now c.keep.new.held c.args.number (Some c.with_verdict.result) c.in_ok-keep.ensures.put
    (c.with_verdict.ensures.holder ∙ ap short_in c.requires.old)
