use Rattle.std.proofs.Common.{◌≡◌, ℕ, ◌+◌, List, sym, ap, ◌∙◌}
use Rattle.wot_edge.specs.declared.path.Step.{Step}
use Rattle.wot_edge.specs.Path.{pair_part}
use Rattle.wot_edge.specs.Sums.{sum_at, pair_cmp, pair_of}
use Rattle.wot_edge.proofs.PairSums.{first_part}
use Rattle.wot_edge.proofs.pairs.raise_all.Goals as goal

pub raise_step-requires-clause-fits : goal.raise_step-requires-clause-fits
raise_step-requires-clause-fits c =
    let step = c.in-Some.step.now in
    let old = sum_at pair_cmp c.rest.pairs.entries (pair_of step) in
    let first : pair_part step.issuer step.target c.args.amount c.rest.rest.now ≡ c.args.amount =
    ap (λ (steps : List Step). pair_part step.issuer step.target c.args.amount steps) c.in-Some.ensures.cases.0
    ∙ first_part step c.in-Some.later.now c.args.amount in
    let sum : old + c.args.amount ≡ sum_at pair_cmp c.args.pairs.now.entries (pair_of step) + pair_part step.issuer
    step.target c.args.amount c.args.steps.now =
    ap (λ (part : ℕ). old + part) (sym first) ∙ c.rest.invariant.raised (pair_of step) in
    rw sum (c.requires.fits (pair_of step))
