use Rattle.std.proofs.Common.{◌≡◌, ◌+◌, inr, true, false, List, ℕ, refl, sym, subst, ◌∙◌}
use Rattle.std.proofs.lemmas.Bool.{false≢true}
use Rattle.wot_edge.specs.declared.edge.EdgeFacts.{EdgeFacts}
use Rattle.wot_edge.specs.Record.{EachRow, Has, Row, edges_into}
use Rattle.wot_edge.specs.declared.demand.Demand.{Demand}
use Rattle.wot_check.specs.Asked.{question_of, used_in}
use Rattle.wot_check.specs.Demand.{is_covered}
use Rattle.wot_edge.specs.RowLaws.{row_edge}
use Rattle.wot_check.proofs.Rows.{all_into, into_own, into_target, within_first, within_later}
use Rattle.wot_check.proofs.ThreePoints.{covered_more, covered_fails, covered_all}
use Rattle.wot_check.proofs.points.covers.Goals as goal

pub rest-init : goal.rest-init
rest-init g c =
    let network = g.R.Roads.network c.args.roads.now in
    let uid = c.args.asked.now.uid.now in
    record {
      into = all_into network c.args.at.now c.rows-rest.result.now c.rows-rest.ensures.rows;
      covered = λ row h. inr
          (subst (λ (xs : List EdgeFacts). Has xs row.edge) (sym (c.rows-rest.ensures.rows uid))
          (row_edge (network uid) c.args.at.now row h));
    }

pub covers_edge-requires : goal.covers_edge-requires
covers_edge-requires g c =
    let network = g.R.Roads.network c.args.roads.now in
    let h : (id : List ℕ) → Has (edges_into (network id) c.args.at.now) c.in-Some.edge.now =
    λ id. within_first c.rest.rest.now _ c.in-Some.later.now c.in-Some.edge.now c.in-Some.ensures.cases.0
    (c.rest.invariant.into id) in
    record { row = into_own network c.rows-rest.ensures.lawful c.args.at.now c.in-Some.edge.now h }

pub returns-then-not-branch : goal.returns-then-not-branch
returns-then-not-branch g c =
    let network = g.R.Roads.network c.args.roads.now in
    let uid = c.args.asked.now.uid.now in
    let q = question_of network c.args.asked.now in
    let used = used_in c.args.asked.now in
    let edge = c.in-Some.edge.now in
    let h : (id : List ℕ) → Has (edges_into (network id) c.args.at.now) c.in-Some.edge.now =
    λ id. within_first c.rest.rest.now _ c.in-Some.later.now edge c.in-Some.ensures.cases.0
    (c.rest.invariant.into id) in
    let t = into_target network c.rows-rest.ensures.lawful c.args.at.now edge h uid in
    let P : Demand → Type 0 =
    λ d. EachRow q.network edge
    (λ (row : Row). is_covered q.target used d (c.args.size + 1) c.args.table.now row ≡ false) in
    let each = subst P c.demanded-demand.ensures
    (λ row k e. c.in_ok-covers_edge.ensures row k e ∙ c.if-not-branch.true) in (
      λ e. absurd (false≢true e),
      λ covers. absurd (covered_fails q used c.args.size c.args.table.now c.args.at.now edge (h uid) t each covers),
    )

pub rest-preserved : goal.rest-preserved
rest-preserved g c =
    let network = g.R.Roads.network c.args.roads.now in
    let uid = c.args.asked.now.uid.now in
    let q = question_of network c.args.asked.now in
    let used = used_in c.args.asked.now in
    let edge = c.in-Some.edge.now in
    let both = c.in-Some.ensures.cases.0 in
    let h : (id : List ℕ) → Has (edges_into (network id) c.args.at.now) c.in-Some.edge.now =
    λ id. within_first c.rest.rest.now _ c.in-Some.later.now edge both (c.rest.invariant.into id) in
    let t = into_target network c.rows-rest.ensures.lawful c.args.at.now edge h uid in
    let P : Demand → Type 0 =
    λ d. EachRow q.network edge
    (λ (row : Row). is_covered q.target used d (c.args.size + 1) c.args.table.now row ≡ true) in
    let each = subst P c.demanded-demand.ensures
    (λ row k e. c.in_ok-covers_edge.ensures row k e ∙ c.if-not-branch.false) in
    record {
      into = λ id. within_later c.rest.rest.now _ c.in-Some.later.now edge both (c.rest.invariant.into id);
      covered = covered_more q used c.args.size c.args.table.now c.args.at.now c.rest.rest.now c.in-Some.later.now edge
          both t each c.rest.invariant.covered;
    }

pub returns : goal.returns
returns g c =
    let q = question_of (g.R.Roads.network c.args.roads.now) c.args.asked.now in (
      λ e. covered_all q (used_in c.args.asked.now) c.args.size c.args.table.now c.args.at.now c.rest.rest.now
          c.in_default.ensures.cases c.rest.invariant.covered,
      λ covers. refl,
    )
