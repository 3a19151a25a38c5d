use Rattle.std.proofs.Common.{◌∙◌, sym, ap, subst}
use Rattle.wot_network.specs.Net.{Lines, line_at}
use Rattle.wot_network.specs.Refreshing.{IsInside, IsProgress}
use Rattle.wot_network.proofs.Fprs.{found_out, found_put}
use Rattle.wot_network.proofs.Looks.{looked_in_vain, looked_on, looked_further, looked_keeps, looked_done}
use Rattle.wot_network.proofs.Steps.{absent_by, done_by_absent, no_advance, no_progress, out_advances, out_keeps}
use Rattle.wot_network.proofs.Steps.{out_progress}
use Rattle.wot_network.proofs.refreshing.look_at.Goals as goal

pub returns-in_default-clause-kept : goal.returns-in_default-clause-kept
returns-in_default-clause-kept c =
    out_keeps c.args.at.now.keyring.now c.args.at.now.t c.args.lines.now.entries
    c.forget.new.lines.entries c.args.fpr.now
    (absent_by c.args.at.now.keyring.now c.args.fpr.now (sym c.in_default.ensures.found))
    (λ q. ap (λ (ls : Lines). line_at ls q) c.forget.ensures.entries
    ∙ found_out c.args.fpr.now q c.args.lines.now.entries c.rises.ensures.sorted) c.args.window.now c.requires.kept

pub returns-in_default-clause-progress : goal.returns-in_default-clause-progress
returns-in_default-clause-progress c =
    out_progress c.args.at.now.keyring.now c.args.at.now.t c.args.lines.now.entries
    c.forget.new.lines.entries c.args.fpr.now
    (absent_by c.args.at.now.keyring.now c.args.fpr.now (sym c.in_default.ensures.found))
    (λ q. ap (λ (ls : Lines). line_at ls q) c.forget.ensures.entries
    ∙ found_out c.args.fpr.now q c.args.lines.now.entries c.rises.ensures.sorted) c.args.steps.now.made

pub returns-in_default-clause-advances : goal.returns-in_default-clause-advances
returns-in_default-clause-advances c =
    out_advances c.args.at.now.keyring.now c.args.at.now.t c.args.lines.now.entries
    c.forget.new.lines.entries c.args.fpr.now
    (absent_by c.args.at.now.keyring.now c.args.fpr.now (sym c.in_default.ensures.found))
    (λ q. ap (λ (ls : Lines). line_at ls q) c.forget.ensures.entries
    ∙ found_out c.args.fpr.now q c.args.lines.now.entries c.rises.ensures.sorted) c.args.steps.now.made

pub returns-in_default-clause-done : goal.returns-in_default-clause-done
returns-in_default-clause-done c =
    done_by_absent c.args.at.now.keyring.now c.args.at.now.t c.forget.new.lines.entries c.args.fpr.now
    (absent_by c.args.at.now.keyring.now c.args.fpr.now (sym c.in_default.ensures.found))

pub returns-then-is_done-clause-progress : goal.returns-then-is_done-clause-progress
returns-then-is_done-clause-progress c = no_progress c.args.at.now.keyring.now c.args.at.now.t c.args.lines.now.entries
    c.args.steps.now.made

pub returns-then-is_done-clause-advances : goal.returns-then-is_done-clause-advances
returns-then-is_done-clause-advances c = no_advance c.args.at.now.keyring.now c.args.at.now.t c.args.lines.now.entries
    c.args.steps.now.made

pub returns-in_err-line-clause-progress : goal.returns-in_err-line-clause-progress
returns-in_err-line-clause-progress c =
    looked_in_vain c.args.at.now.keyring.now c.args.at.now.t c.args.lines.now.entries c.args.fpr.now c.in-Some.cert.now
    c.stamp-stamp.result (sym c.in-Some.ensures.found) c.stamp-stamp.ensures.stamp (sym c.if-is_done.ensures.done)
    c.args.steps.now.made c.make.new.steps.made c.make.ensures.never_less c.make.ensures.made_most

pub returns-in_err-put-clause-progress : goal.returns-in_err-put-clause-progress
returns-in_err-put-clause-progress c =
    subst (λ (ls : Lines). IsProgress c.args.at.now.keyring.now c.args.at.now.t c.args.lines.now.entries ls
    c.args.steps.now.made c.make.new.steps.made) (sym c.in_err-put.ensures.same)
    (looked_in_vain c.args.at.now.keyring.now c.args.at.now.t c.args.lines.now.entries c.args.fpr.now c.in-Some.cert.now
    c.stamp-stamp.result (sym c.in-Some.ensures.found) c.stamp-stamp.ensures.stamp (sym c.if-is_done.ensures.done)
    c.args.steps.now.made c.make.new.steps.made c.make.ensures.never_less c.make.ensures.made_most)

pub returns-clause-kept : goal.returns-clause-kept
returns-clause-kept c =
    looked_keeps c.args.at.now.keyring.now c.args.at.now.t c.args.lines.now.entries c.args.fpr.now c.in-Some.cert.now
    c.stamp-stamp.result (sym c.in-Some.ensures.found) c.stamp-stamp.ensures.stamp (sym c.if-is_done.ensures.done)
    c.put.new.lines.entries c.in_ok-line.line c.verdicts.result.now.entries c.verdicts.ensures.verdicts c.requires.sorted
    c.in-Some.ensures.named c.in_ok-line.ensures.made
    (λ q. ap (λ (ls : Lines). line_at ls q) c.in_ok-put.ensures.entries ∙ found_put q c.args.lines.now.entries
    c.args.fpr.now c.in_ok-line.line)
    c.args.window.now c.narrow.result c.narrow.ensures.window (subst (IsInside c.narrow.result) c.span-span.ensures.span
    c.narrow.ensures.span) c.stamp-stamp.ensures.absent c.stamp-stamp.ensures.past c.requires.kept

pub returns-clause-progress : goal.returns-clause-progress
returns-clause-progress c =
    looked_on c.args.at.now.keyring.now c.args.at.now.t c.args.lines.now.entries c.args.fpr.now c.in-Some.cert.now
    c.stamp-stamp.result (sym c.in-Some.ensures.found) c.stamp-stamp.ensures.stamp (sym c.if-is_done.ensures.done)
    c.put.new.lines.entries c.in_ok-line.line c.verdicts.result.now.entries c.verdicts.ensures.verdicts c.requires.sorted
    c.in-Some.ensures.named c.in_ok-line.ensures.made
    (λ q. ap (λ (ls : Lines). line_at ls q) c.in_ok-put.ensures.entries ∙ found_put q c.args.lines.now.entries
    c.args.fpr.now c.in_ok-line.line)
    c.args.steps.now.made c.make.new.steps.made c.make.ensures.never_less c.make.ensures.made_most

pub returns-clause-advances : goal.returns-clause-advances
returns-clause-advances c =
    looked_further c.args.at.now.keyring.now c.args.at.now.t c.args.lines.now.entries c.args.fpr.now c.in-Some.cert.now
    c.stamp-stamp.result (sym c.in-Some.ensures.found) c.stamp-stamp.ensures.stamp (sym c.if-is_done.ensures.done)
    c.put.new.lines.entries c.in_ok-line.line c.verdicts.result.now.entries c.verdicts.ensures.verdicts c.requires.sorted
    c.in-Some.ensures.named c.in_ok-line.ensures.made
    (λ q. ap (λ (ls : Lines). line_at ls q) c.in_ok-put.ensures.entries ∙ found_put q c.args.lines.now.entries
    c.args.fpr.now c.in_ok-line.line)
    c.args.steps.now.made c.make.new.steps.made c.make.ensures.made_most c.in_ok-line.ensures.made_least

pub returns-clause-done : goal.returns-clause-done
returns-clause-done c =
    looked_done c.args.at.now.keyring.now c.args.at.now.t c.args.lines.now.entries c.args.fpr.now c.in-Some.cert.now
    c.stamp-stamp.result (sym c.in-Some.ensures.found) c.stamp-stamp.ensures.stamp (sym c.if-is_done.ensures.done)
    c.put.new.lines.entries c.in_ok-line.line c.verdicts.result.now.entries c.verdicts.ensures.verdicts c.requires.sorted
    c.in-Some.ensures.named c.in_ok-line.ensures.made
    (λ q. ap (λ (ls : Lines). line_at ls q) c.in_ok-put.ensures.entries ∙ found_put q c.args.lines.now.entries
    c.args.fpr.now c.in_ok-line.line)
