use Rattle.std.proofs.Common.{List, ℕ, sym, subst, arith}
use Rattle.wot_types.specs.declared.fpr.Fpr.{Fpr}
use Rattle.wot_edge.specs.Roots.{NoneOver}
use Rattle.wot_search.proofs.OneSearch.{none_over_more}
use Rattle.wot_search.proofs.offers.is_most.Goals as goal

pub roots-preserved : goal.roots-preserved
roots-preserved c =
    let fits = c.if-amount-most.false in (
      tt,
      tt,
      λ n. c.roots.invariant.2 (subst (λ (rs : List (Fpr × ℕ)). NoneOver c.args.amount rs) (sym c.in-Some.ensures.steps)
          (none_over_more c.args.amount (c.in-Some._fpr, c.in-Some.most) c.next.new.self (omega (arith, fits)) n)),
    )

pub returns : goal.returns
returns c = record {
  most = λ yes. c.roots.invariant.2
      (subst (λ (rs : List (Fpr × ℕ)). NoneOver c.args.amount rs) (sym c.in-None.ensures.steps.0) (λ fpr. omega arith));
}
