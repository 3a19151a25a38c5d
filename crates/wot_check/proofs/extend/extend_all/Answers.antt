use Rattle.std.proofs.Common.{inr}
use Rattle.wot_check.specs.Asked.{question_of, used_in}
use Rattle.wot_check.proofs.Rows.{within_first, within_later}
use Rattle.wot_check.proofs.LabelsGiven.{advances_refl, grew_by_more, grew_by_end}
use Rattle.wot_check.proofs.extend.extend_all.Goals as goal

pub rest-init : goal.rest-init
rest-init g c =
    let q = question_of (g.R.Roads.network c.args.roads.now) c.args.asked.now in
    record {
      within = λ x h. h;
      grew = λ leads layered. record {
        advances = advances_refl q (used_in c.args.asked.now) c.args.size c.args.growth.now layered;
        covered = λ at h. inr h;
      };
    }

pub rest-preserved : goal.rest-preserved
rest-preserved g c =
    let q = question_of (g.R.Roads.network c.args.roads.now) c.args.asked.now in
    let both = c.in-Some.ensures.cases.0 in
    let h = within_first c.rest.rest.now c.args.layer.now c.in-Some.later.now c.in-Some.at.now both
    c.rest.invariant.within in
    record {
      within = within_later c.rest.rest.now c.args.layer.now c.in-Some.later.now c.in-Some.at.now both
          c.rest.invariant.within;
      grew = λ leads layered. grew_by_more q (used_in c.args.asked.now) c.args.size c.args.layer.now c.args.growth.now
          c.rest.growth c.extend.new.growth c.rest.rest.now c.in-Some.later.now c.in-Some.at.now both h leads
          c.in_ok-extend.ensures.grown (c.rest.invariant.grew leads layered);
    }

pub returns : goal.returns
returns g c =
    let q = question_of (g.R.Roads.network c.args.roads.now) c.args.asked.now in
    record {
      grown = λ leads layered. grew_by_end q (used_in c.args.asked.now) c.args.size c.args.layer.now
          c.args.growth.now c.rest.growth c.rest.rest.now c.in_default.ensures.cases
          (c.rest.invariant.grew leads layered);
    }
