use Rattle.std.proofs.Common.{◌≡◌, inl, inr, true, false, sym, subst, ◌∙◌}
use Rattle.wot_edge.specs.declared.edge.EdgeFacts.{EdgeFacts}
use Rattle.wot_check.specs.Trace.{has_name}
use Rattle.wot_check.proofs.Rows.{within_first, within_later, first_or_later, none_left}
use Rattle.wot_check.proofs.ClaimedSteps.{has_name-true, true-has_name}
use Rattle.wot_check.proofs.trace.find.Goals as goal

pub returns-then-names : goal.returns-then-names
returns-then-names c = (
  within_first c.rest.rest.now c.args.edges.now c.in-Some.later.now c.in-Some.edge.now c.in-Some.ensures.cases.0
      c.rest.invariant.within,
  has_name-true c.args.item.now c.in-Some.edge.now (sym c.names.ensures ∙ c.if-names.true),
)

pub rest-preserved : goal.rest-preserved
rest-preserved c = record {
  within = within_later c.rest.rest.now c.args.edges.now c.in-Some.later.now c.in-Some.edge.now
      c.in-Some.ensures.cases.0 c.rest.invariant.within;
  others = λ edge h n.
      elim (first_or_later c.rest.rest.now c.in-Some.later.now c.in-Some.edge.now edge c.in-Some.ensures.cases.0
      (c.rest.invariant.others edge h n)) [
        | inl same ↦
            let t : has_name c.args.item.now c.in-Some.edge.now ≡ true =
            subst (λ (e : EdgeFacts). has_name c.args.item.now e ≡ true) same (true-has_name c.args.item.now edge n) in
            let f : has_name c.args.item.now c.in-Some.edge.now ≡ false = sym c.names.ensures ∙ c.if-names.false in
            absurd cc
        | inr k ↦ k
      ];
}

pub returns : goal.returns
returns c edge h n = none_left c.rest.rest.now edge c.in_default.ensures.cases (c.rest.invariant.others edge h n)
