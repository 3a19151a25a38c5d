use Rattle.std.proofs.Common.{List, refl, sym, subst}
use Rattle.wot_edge.specs.declared.path.Step.{Step}
use Rattle.wot_edge.specs.Path.{Distinct, issuers}
use Rattle.wot_check.proofs.ShownPaths.{none_distinct}
use Rattle.wot_check.proofs.show.are_distinct.Goals as goal

pub rest-preserved : goal.rest-preserved
rest-preserved c =
    let both = c.in-Some.ensures.cases.0 in (
      λ d. c.rest.invariant.0
          (subst (λ (steps : List Step). Distinct (issuers steps)) (sym both)
          (λ h. let t = c.if-has_issuer.ensures.1 h in cc, d)),
      λ d. (subst (λ (steps : List Step). Distinct (issuers steps)) both (c.rest.invariant.1 d)).1,
    )

pub returns : goal.returns
returns c = (λ e. c.rest.invariant.0 (none_distinct c.rest.rest.now c.in_default.ensures.cases), λ d. refl)
