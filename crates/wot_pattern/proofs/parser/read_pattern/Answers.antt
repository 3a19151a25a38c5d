use Rattle.std.proofs.Common.{arith, sym, subst, ◌∙◌, ◌≡◌, [], drop}
use Rattle.std.proofs.lemmas.List.{drop_all}
use Rattle.std.proofs.lemmas.Result.{err_from_is_err_and}
use Rattle.wot_pattern.specs.Reading.{Reading}
use Rattle.wot_pattern.specs.Grammar.{Reads, pattern}
use Rattle.wot_pattern.specs.Steps.{State, Builds, Runs, fresh, level_so_far}
use Rattle.wot_pattern.specs.declared.fault.PatternFault.TheVariants.{Unreadable}
use Rattle.wot_pattern.proofs.Sound.{SoFar, SoFar-fresh, SoFar-step, SoFar-end}
use Rattle.wot_pattern.proofs.Complete.{runs_from_reads, Runs-step, Runs-end}
use Rattle.std.proofs.lemmas.Result.{IfOk-weaker}
use Rattle.wot_pattern.proofs.Lists.{if_err, step_here, no_step_here}
use Rattle.wot_pattern.proofs.parser.read_pattern.Goals as goal

pub steps-init : goal.steps-init
steps-init c = (
  omega arith,
  (
    fresh 64 [],
    c.in_ok-builder.ensures.fresh,
    SoFar-fresh c.args.text.now,
    λ p h. runs_from_reads c.args.text.now p h,
  ),
)

pub steps-preserved : goal.steps-preserved
steps-preserved c =
    let (s, b, so_far, runs) = c.steps.invariant.1 in
    let (s', by, b') = c.in_ok-at.ensures.built s b in
    let step = step_here c.args.text.now c.steps.at c.index-text-at.result c.mark_of-mark.result c.steps-test.true
    c.index-text-at.is c.mark_of-mark.ensures s s' (drop c.in_ok-at.at c.args.text.now) by in (
      c.in_ok-at.ensures.within.1,
      (
        s',
        b',
        SoFar-step c.args.text.now s s' (drop c.steps.at c.args.text.now) (drop c.in_ok-at.at c.args.text.now)
            so_far step,
        λ p h. Runs-step (runs p h) step,
      ),
    )

pub returns-in_err-at-clause-unreadable : goal.returns-in_err-at-clause-unreadable
returns-in_err-at-clause-unreadable c =
    let p = err_from_is_err_and c.from_residual-in_err-at.result c.from_residual-in_err-at.ensures.1 in
    rw p.1 (λ e r h.
    let (s, b, so_far, runs) = c.steps.invariant.1 in
    no_step_here c.args.text.now c.steps.at c.index-text-at.result c.mark_of-mark.result c.steps-test.true
    c.index-text-at.is c.mark_of-mark.ensures s
    (λ s' t k. c.in_err-at.ensures.unreadable (sym p.2 ∙ e) s s' t b k) r (runs r h))

pub returns-clause-read : goal.returns-clause-read
returns-clause-read c =
    let (s, b, so_far, runs) = c.steps.invariant.1 in
    let none : drop c.steps.at c.args.text.now ≡ [] = drop_all c.steps.at c.args.text.now c.steps-test.false in
    IfOk-weaker c.finish.result (λ p. (s : State) → Builds c.steps.builder s → (s.outer ≡ []) × (p ≡ level_so_far s))
    (λ p. Reads pattern 64 c.args.text.now p [])
    (λ p h. let (e, is) = h s b in
    subst (λ z. Reads pattern 64 c.args.text.now z []) (sym is)
    (SoFar-end c.args.text.now s (subst (λ z. SoFar c.args.text.now s z) none so_far) e))
    c.finish.ensures.whole

pub returns-clause-unreadable : goal.returns-clause-unreadable
returns-clause-unreadable c =
    let (s, b, so_far, runs) = c.steps.invariant.1 in
    let none : drop c.steps.at c.args.text.now ≡ [] = drop_all c.steps.at c.args.text.now c.steps-test.false in
    if_err c.finish.result (λ e. e ≡ Unreadable → (s : State) → Builds c.steps.builder s → s.outer ≡ [] → ⊥)
    (λ e. e ≡ Unreadable → (p : Reading) → Reads pattern 64 c.args.text.now p [] → ⊥)
    (λ e h u p k. h u s b (Runs-end (subst (λ z. Runs s z p) none (runs p k))).0)
    c.finish.ensures.unreadable
