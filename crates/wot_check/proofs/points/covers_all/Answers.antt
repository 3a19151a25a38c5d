use Rattle.std.proofs.Common.{refl, subst, sym, ◌∙◌}
use Rattle.std.proofs.lemmas.Bool.{false≢true}
use Rattle.wot_check.specs.Asked.{question_of, used_in}
use Rattle.wot_check.specs.Table.{Labels}
use Rattle.wot_check.proofs.Rows.{within_first, within_later}
use Rattle.wot_check.proofs.ThreePoints.{LabelsSoFar, labels_more, labels_all, labels_fail}
use Rattle.wot_check.proofs.points.covers_all.Goals as goal

pub returns-then-not-branch : goal.returns-then-not-branch
returns-then-not-branch g c =
    let q = question_of (g.R.Roads.network c.args.roads.now) c.args.asked.now in
    let h = within_first c.rest.rest c.args.table.now c.next.new.self (c.in-Some.fpr, c.in-Some.label)
    c.in-Some.ensures.steps c.rest.invariant.2.within in (
      λ e. absurd (false≢true e),
      λ others. absurd
          (labels_fail q (used_in c.args.asked.now) c.args.table.now c.iter-rest.ensures.table c.in-Some.fpr
          c.in-Some.label
          h
          (λ f. false≢true (sym c.if-not-branch.true ∙ c.in_ok-covers_below.ensures.1 f)) others),
    )

pub rest-preserved : goal.rest-preserved
rest-preserved g c =
    let q = question_of (g.R.Roads.network c.args.roads.now) c.args.asked.now in (
      tt,
      tt,
      record {
        within = within_later c.rest.rest c.args.table.now c.next.new.self (c.in-Some.fpr, c.in-Some.label)
            c.in-Some.ensures.steps c.rest.invariant.2.within;
        covered = labels_more q (used_in c.args.asked.now) c.args.table.now c.rest.rest c.next.new.self c.in-Some.fpr
            c.in-Some.label c.in-Some.ensures.steps (c.in_ok-covers_below.ensures.0 c.if-not-branch.false)
            c.rest.invariant.2.covered;
      },
    )

pub returns : goal.returns
returns g c =
    let q = question_of (g.R.Roads.network c.args.roads.now) c.args.asked.now in (
      λ e. labels_all q (used_in c.args.asked.now) c.args.table.now c.iter-rest.ensures.table
          (subst (λ (xs : Labels). LabelsSoFar q (used_in c.args.asked.now) c.args.table.now xs)
          c.in_default.ensures.steps.0 c.rest.invariant.2.covered),
      λ others. refl,
    )
