use Rattle.std.proofs.Common.{refl, sym, subst}
use Rattle.wot_edge.specs.Lawful.{AreRows}
use Rattle.wot_edge.proofs.PlainTold.{rows_before, rows_first, rows_rest, rows_end}
use Rattle.wot_edge.proofs.plain.are_rows.Goals as goal

pub returns-then-not-may_precede : goal.returns-then-not-may_precede
returns-then-not-may_precede c =
    let fpr = c.args.fpr.now in
    record {
      rows = (
        λ e. absurd cc,
        λ r.
            let whole = subst (AreRows fpr) c.in-Some.ensures.cases.0 (c.rest.invariant.1 r) in
            c.if-not-may_precede.ensures.may.1 (rows_first fpr c.in-Some.edge.now c.in-Some.later.now whole),
      );
    }

pub rest-preserved : goal.rest-preserved
rest-preserved c =
    let may = c.if-not-may_precede.ensures.may.0 refl in
    let both = c.in-Some.ensures.cases.0 in
    let fpr = c.args.fpr.now in
    let edge = c.in-Some.edge.now in
    let later = c.in-Some.later.now in (
      λ r. c.rest.invariant.0 (subst (AreRows fpr) (sym both) (rows_before fpr edge later may r)),
      λ r. rows_rest fpr edge later (subst (AreRows fpr) both (c.rest.invariant.1 r)),
    )

pub returns : goal.returns
returns c = record
    { rows = (λ e. c.rest.invariant.0 (rows_end c.args.fpr.now c.rest.rest.now c.in_default.ensures.cases), λ r. refl) }
