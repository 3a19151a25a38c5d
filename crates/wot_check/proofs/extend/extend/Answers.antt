use Rattle.std.proofs.Common.{◌+◌, List, ℕ, subst}
use Rattle.wot_edge.specs.Record.{EachRow, Has, Row, edges_into}
use Rattle.wot_edge.specs.declared.demand.Demand.{Demand}
use Rattle.wot_check.specs.Asked.{question_of, used_in}
use Rattle.wot_check.specs.Growth.{GivesIf, is_new}
use Rattle.wot_check.proofs.Rows.{all_into, into_own, into_target, within_first, within_later}
use Rattle.wot_check.proofs.LabelsGiven.{grew_begin, grew_more, grew_end}
use Rattle.wot_check.proofs.extend.extend.Goals as goal

pub rest-init : goal.rest-init
rest-init g c =
    let network = g.R.Roads.network c.args.roads.now in
    let q = question_of network c.args.asked.now in
    record {
      into = all_into network c.args.at.now c.rows-rest.result.now c.rows-rest.ensures.rows;
      grew = λ leads layered. grew_begin q (used_in c.args.asked.now) c.args.size c.args.at.now c.args.growth.now
          c.rows-rest.result.now (c.rows-rest.ensures.rows c.args.asked.now.uid.now) layered;
    }

pub consider-requires-clause-row : goal.consider-requires-clause-row
consider-requires-clause-row g c =
    let network = g.R.Roads.network c.args.roads.now in
    let h : (id : List ℕ) → Has (edges_into (network id) c.args.at.now) c.in-Some.edge.now =
    λ id. within_first c.rest.rest.now _ c.in-Some.later.now c.in-Some.edge.now c.in-Some.ensures.cases.0
    (c.rest.invariant.into id) in
    into_own network c.rows-rest.ensures.lawful c.args.at.now c.in-Some.edge.now h

pub rest-preserved : goal.rest-preserved
rest-preserved g c =
    let network = g.R.Roads.network c.args.roads.now in
    let uid = c.args.asked.now.uid.now in
    let q = question_of network c.args.asked.now in
    let used = used_in c.args.asked.now in
    let edge = c.in-Some.edge.now in
    let both = c.in-Some.ensures.cases.0 in
    let h : (id : List ℕ) → Has (edges_into (network id) c.args.at.now) edge =
    λ id. within_first c.rest.rest.now _ c.in-Some.later.now edge both (c.rest.invariant.into id) in
    let t = into_target network c.rows-rest.ensures.lawful c.args.at.now edge h uid in
    let P : Demand → Type 0 =
    λ d. EachRow q.network edge
    (λ (row : Row). GivesIf (is_new q.target used d c.rest.growth.table row) c.rest.growth c.consider.new.growth
    row.edge.issuer (c.args.size + 1)) in
    let gives = subst P c.demanded-demand.ensures c.in_ok-consider.ensures.given in
    record {
      into = λ id. within_later c.rest.rest.now _ c.in-Some.later.now edge both (c.rest.invariant.into id);
      grew = λ leads layered. grew_more q used c.args.size c.args.at.now c.args.growth.now c.rest.growth
          c.consider.new.growth c.rest.rest.now c.in-Some.later.now edge both t (h uid) leads gives
          (c.rest.invariant.grew leads layered);
    }

pub returns : goal.returns
returns g c =
    let q = question_of (g.R.Roads.network c.args.roads.now) c.args.asked.now in
    record {
      grown = λ leads layered. grew_end q (used_in c.args.asked.now) c.args.size c.args.at.now c.args.growth.now
          c.rest.growth c.rest.rest.now c.in_default.ensures.cases (c.rest.invariant.grew leads layered);
    }
