use Rattle.std.proofs.Common.{◌≡◌, true, sym, subst, ◌∙◌, ap}
use Rattle.std.specs.Ordering.{is_eq}
use Rattle.wot_types.specs.declared.fpr.Fpr.{Fpr}
use Rattle.wot_types.specs.Fpr.{same_fpr}
use Rattle.wot_types.specs.FprLaws.{same_fpr-true, same_fpr-refl}
use Rattle.wot_edge.proofs.demand.is_same.Goals as goal

pub returns-clause-equal : goal.returns-clause-equal
returns-clause-equal c =
    let same = c.is_eq.ensures ∙ ap is_eq c.compare_fprs.ensures.octets in (
      λ e. same_fpr-true c.args.a.now c.args.b.now (sym same ∙ e),
      λ e. same ∙ subst (λ (x : Fpr). same_fpr c.args.a.now x ≡ true) e (same_fpr-refl c.args.a.now),
    )
