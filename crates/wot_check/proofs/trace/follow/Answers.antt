use Rattle.std.proofs.Common.{◌≡◌, true, false, List, ℕ, Some, sym, ap, subst, ◌∙◌, length}
use Rattle.wot_types.specs.declared.fpr.Fpr.{Fpr}
use Rattle.wot_edge.specs.declared.edge.EdgeFacts.{EdgeFacts}
use Rattle.wot_edge.specs.declared.path.Step.{Step}
use Rattle.wot_edge.specs.Record.{Has, edges_into, rows_into}
use Rattle.wot_edge.specs.Path.{step_of}
use Rattle.wot_edge.specs.declared.demand.Demand.{Demand}
use Rattle.wot_check.specs.Asked.{question_of, used_in}
use Rattle.wot_edge.specs.Demand.{demand_of}
use Rattle.wot_check.specs.Demand.{may_stand}
use Rattle.wot_check.specs.Trace.{IsNamed, IsFollower}
use Rattle.wot_edge.specs.RowLaws.{row_there}
use Rattle.wot_check.proofs.Rows.{into_own, into_target}
use Rattle.wot_check.proofs.ClaimedSteps.{none_named, row_follows, row_fails}
use Rattle.wot_check.proofs.trace.follow.Goals as goal

pub carries-requires : goal.carries-requires
carries-requires g c =
    let network = g.R.Roads.network c.args.roads.now in
    let edge = c.in-Some.edge.now in
    let h : (id : List ℕ) → Has (edges_into (network id) c.begin-target.result) edge =
    λ id. subst (λ (xs : List EdgeFacts). Has xs edge) (c.rows.ensures.rows id) c.in-Some.ensures.0 in
    record { row = into_own network c.rows.ensures.lawful c.begin-target.result edge h }

pub returns-in-None : goal.returns-in-None
returns-in-None g c =
    let network = g.R.Roads.network c.args.roads.now in
    let uid = c.args.asked.now.uid.now in
    let q = question_of network c.args.asked.now in
    record {
      found = none_named q (used_in c.args.asked.now) (c.rows.ensures.lawful uid) c.args.item.now
          c.args.later.now c.begin-target.result c.rows.result.now c.begin-target.ensures (c.rows.ensures.rows uid)
          c.in-None.ensures;
    }

pub returns-then-branch : goal.returns-then-branch
returns-then-branch g c =
    let network = g.R.Roads.network c.args.roads.now in
    let uid = c.args.asked.now.uid.now in
    let q = question_of network c.args.asked.now in
    let used = used_in c.args.asked.now in
    let edge = c.in-Some.edge.now in
    let h : (id : List ℕ) → Has (edges_into (network id) c.begin-target.result) edge =
    λ id. subst (λ (xs : List EdgeFacts). Has xs edge) (c.rows.ensures.rows id) c.in-Some.ensures.0 in
    let good = c.rows.ensures.lawful uid in
    let r = row_there (network uid) c.begin-target.result edge (h uid) in
    let own = subst (λ (f : Fpr). Has (rows_into (network uid) f) r.0)
    (sym (into_target network c.rows.ensures.lawful c.begin-target.result edge h uid)) r.1 in
    let into = subst (λ (f : Fpr). Has (rows_into (network uid) f) r.0) c.begin-target.ensures r.1 in
    let named : IsNamed c.args.item.now r.0.edge =
    subst (λ (e : EdgeFacts). IsNamed c.args.item.now e) (sym r.2) c.in-Some.ensures.1 in
    let carries : may_stand q.target used (demand_of q (length c.args.later.now)) r.0 ≡ true =
    subst (λ (d : Demand). may_stand q.target used d r.0 ≡ true) c.demanded-demand.ensures
    (c.in_ok-carries-in-Some.ensures r.0 own r.2 ∙ c.if-branch.true) in
    let same : step_of r.0.edge ≡ c.step_from.result =
    ap step_of r.2 ∙ sym (c.step_from.ensures ∙ ap step_of c.facts.ensures.facts) in
    record {
      found = subst (λ (s : Step). IsFollower q used c.args.item.now c.args.later.now (Some s)) same
          (row_follows q used good c.args.item.now c.args.later.now r.0 into named carries);
    }

pub returns-else-branch : goal.returns-else-branch
returns-else-branch g c =
    let network = g.R.Roads.network c.args.roads.now in
    let uid = c.args.asked.now.uid.now in
    let q = question_of network c.args.asked.now in
    let used = used_in c.args.asked.now in
    let edge = c.in-Some.edge.now in
    let h : (id : List ℕ) → Has (edges_into (network id) c.begin-target.result) edge =
    λ id. subst (λ (xs : List EdgeFacts). Has xs edge) (c.rows.ensures.rows id) c.in-Some.ensures.0 in
    let good = c.rows.ensures.lawful uid in
    let r = row_there (network uid) c.begin-target.result edge (h uid) in
    let own = subst (λ (f : Fpr). Has (rows_into (network uid) f) r.0)
    (sym (into_target network c.rows.ensures.lawful c.begin-target.result edge h uid)) r.1 in
    let into = subst (λ (f : Fpr). Has (rows_into (network uid) f) r.0) c.begin-target.ensures r.1 in
    let named : IsNamed c.args.item.now r.0.edge =
    subst (λ (e : EdgeFacts). IsNamed c.args.item.now e) (sym r.2) c.in-Some.ensures.1 in
    let carries : may_stand q.target used (demand_of q (length c.args.later.now)) r.0 ≡ false =
    subst (λ (d : Demand). may_stand q.target used d r.0 ≡ false) c.demanded-demand.ensures
    (c.in_ok-carries-in-Some.ensures r.0 own r.2 ∙ c.if-branch.false) in
    record { found = row_fails q used good c.args.item.now c.args.later.now r.0 into named carries }
