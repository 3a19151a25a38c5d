use Rattle.std.proofs.Common.{◌≡◌, Bool, true, false, Some, List, sym, ap, ◌∙◌}
use Rattle.std.specs.Bool.{MatchBool}
use Rattle.wot_types.specs.declared.fpr.Fpr.{Fpr}
use Rattle.wot_types.specs.declared.number.SigNumber.{SigNumber}
use Rattle.wot_index.specs.Index.{holder_without}
use Rattle.wot_index.proofs.Indexed.{noted_again, put_again}
use Rattle.wot_index.proofs.index.note.Goals as goal

when_true : (b : Bool) (P P' Q : Type 0) → MatchBool b (P × P') Q → b ≡ true → P × P'
when_true true P P' Q h e = h
when_true false P P' Q h e = absurd cc

pub returns-clause-noted : goal.returns-clause-noted
returns-clause-noted c = λ exact.
    let s = when_true c.stays_exact-index.result (c.args.index.now.exact ≡ true) (c.in-Some.before ≡ c.args.fpr) _
    c.stays_exact-index.ensures.stays exact in
    let has = sym c.in-Some.ensures.holder ∙ ap (λ (f : Fpr). Some f) s.1 in (
      s.0,
      noted_again c.args.index.now.verdicts c.args.index.now.verdicts c.args.number c.args.fpr
          (put_again c.args.index.now.verdicts c.args.number c.args.fpr has) has,
    )

pub returns-clause-log : goal.returns-clause-log
returns-clause-log c = λ exact.
    let s = when_true c.stays_exact-index.result (c.args.index.now.exact ≡ true) (c.in-Some.before ≡ c.args.fpr) _
    c.stays_exact-index.ensures.stays exact in (
      s.0,
      λ n. ap (λ (log : List SigNumber). holder_without log c.args.index.now.verdicts n) c.in_ok-reserve.ensures.items,
    )
