use Rattle.std.proofs.Common.{sym, ap, ◌∙◌, ℕ, min, List}
use Rattle.wot_edge.specs.declared.path.Step.{Step}
use Rattle.wot_edge.specs.Path.{least_left, step_left}
use Rattle.wot_edge.specs.Sums.{use_in}
use Rattle.wot_check.proofs.Lefts.{least_more}
use Rattle.wot_check.proofs.left.least.Goals as goal

pub rest-preserved : goal.rest-preserved
rest-preserved c =
    let used = use_in c.args.used.now in
    let later = c.in-Some.later.now in
    ap (λ (n : ℕ). least_left used n later)
    (c.min-least.ensures ∙ ap (λ (n : ℕ). min c.rest.least n) c.left_of_step.ensures)
    ∙ least_more used c.rest.least (step_left used c.in-Some.step.now) later
    ∙ ap (λ (steps : List Step). least_left used c.rest.least steps) (sym c.in-Some.ensures.cases.0)
    ∙ c.rest.invariant
