use Rattle.std.proofs.Common.{inl, inr, List, sym, subst}
use Rattle.std.proofs.lemmas.Bool.{false≢true}
use Rattle.wot_edge.specs.declared.path.Step.{Step}
use Rattle.wot_edge.specs.Path.{issuers}
use Rattle.wot_edge.specs.Record.{Has}
use Rattle.wot_check.proofs.ShownPaths.{no_issuers}
use Rattle.wot_check.proofs.show.has_issuer.Goals as goal

pub rest-preserved : goal.rest-preserved
rest-preserved c =
    let both = c.in-Some.ensures.cases.0 in
    let fpr = c.args.fpr.now in (
      λ h. c.rest.invariant.0 (subst (λ (steps : List Step). Has (issuers steps) fpr) (sym both) (inr h)),
      λ h. elim (subst (λ (steps : List Step). Has (issuers steps) fpr) both (c.rest.invariant.1 h)) [
        | inl e ↦ absurd (false≢true (c.if-is_same.ensures.equal.1 e))
        | inr k ↦ k
      ],
    )

pub returns : goal.returns
returns c = (
  λ e. absurd (false≢true e),
  λ h. absurd (no_issuers c.rest.rest.now c.args.fpr.now c.in_default.ensures.cases (c.rest.invariant.1 h)),
)
