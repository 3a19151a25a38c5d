use Rattle.std.proofs.Common.{◌≡◌, refl, sym, ap, ◌∙◌, false}
use Rattle.std.specs.Ordering.{is_lt, is_eq}
use Rattle.wot_types.specs.Fpr.{same_fpr}
use Rattle.wot_types.specs.FprLaws.{same_fpr-true}
use Rattle.wot_edge.specs.declared.edge.EdgeFacts.{EdgeFacts}
use Rattle.wot_edge.proofs.PlainTold.{may_first, may_last, may_other, may_less}
use Rattle.wot_edge.proofs.plain.may_precede.Goals as goal

pub returns-then-not-is_eq : goal.returns-then-not-is_eq
returns-then-not-is_eq c =
    let apart : same_fpr c.args.edge.now.target c.args.fpr.now ≡ false =
    ap (λ (edge : EdgeFacts). same_fpr edge.target c.args.fpr.now) (sym c.facts.ensures.facts)
    ∙ ap is_eq (sym c.compare_fprs.ensures.octets) ∙ sym c.is_eq.ensures ∙ c.if-not-is_eq.true in
    record { may = (λ e. absurd cc, λ m. absurd (may_other c.args.fpr.now c.args.edge.now c.args.later.now apart m)) }

pub returns-in-Some : goal.returns-in-Some
returns-in-Some c =
    let target = ap (λ (edge : EdgeFacts). edge.target) (sym c.facts.ensures.facts)
    ∙ same_fpr-true c.facts.result.target c.args.fpr.now
    (ap is_eq (sym c.compare_fprs.ensures.octets) ∙ sym c.is_eq.ensures ∙ c.if-not-is_eq.false) in
    let less = c.is_lt.ensures ∙ ap is_lt c.compare_edges.ensures.order in
    record {
      may = (
        λ e. may_first c.args.fpr.now c.args.edge.now c.in-Some.next.now c.args.later.now c.in-Some.ensures.value target
            (sym less ∙ e),
        λ m. less ∙ may_less c.args.fpr.now c.args.edge.now c.in-Some.next.now c.args.later.now c.in-Some.ensures.value
            m,
      );
    }

pub returns-in-None : goal.returns-in-None
returns-in-None c =
    let target = ap (λ (edge : EdgeFacts). edge.target) (sym c.facts.ensures.facts)
    ∙ same_fpr-true c.facts.result.target c.args.fpr.now
    (ap is_eq (sym c.compare_fprs.ensures.octets) ∙ sym c.is_eq.ensures ∙ c.if-not-is_eq.false) in
    record {
      may = (
        λ less. may_last c.args.fpr.now c.args.edge.now c.args.later.now c.in-None.ensures.value target,
        λ m. refl,
      );
    }
