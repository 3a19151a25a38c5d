use Rattle.std.proofs.Common.{inl, inr, subst, length}
use Rattle.wot_edge.specs.Path.{asks}
use Rattle.wot_edge.specs.Record.{Has}
use Rattle.wot_edge.specs.Sums.{use_in}
use Rattle.wot_reach.specs.Reach.{number_at}
use Rattle.wot_reach.proofs.Within.{reach_holds}
use Rattle.wot_first_path.proofs.Layers.{looked_grows}
use Rattle.wot_search.specs.Widest.{widest_of, IsWidestNoted, IsWidestOrSpent}
use Rattle.wot_search.proofs.NextOfTwo.{both_next, both_local}
use Rattle.wot_search.proofs.next.next_path_within.Goals as goal

pub returns-in-None-clause-next : goal.returns-in-None-clause-next
returns-in-None-clause-next g c =
    subst (IsWidestOrSpent (g.R.Roads.network c.args.roads.now) c.args.asked.now c.args.used.now) c.in-None.is
    c.in_ok-widest.ensures.widest

pub returns-in-None-clause-local : goal.returns-in-None-clause-local
returns-in-None-clause-local g c =
    subst
    (IsWidestNoted (g.R.Roads.network c.args.roads.now) c.args.asked.now c.args.used.now
    (g.N.Notes.noted c.widest.new.notes)) c.in-None.is c.in_ok-widest.ensures.noted

pub returns-clause-next : goal.returns-clause-next
returns-clause-next g c =
    let network = g.R.Roads.network c.args.roads.now in
    let asked = c.args.asked.now in
    let q = asks (network asked.uid.now) asked.roots.now asked.target.now in
    let used = use_in c.args.used.now in
    let reach = number_at asked.reach.now in
    let holds = reach_holds network asked.roots.now reach c.requires.reach.enough asked.uid.now asked.target.now used in
    let wide = subst (IsWidestOrSpent network asked c.args.used.now) c.in-Some.is c.in_ok-widest.ensures.widest in
    both_next reach q used holds wide.in_order c.in-Some.path c.in_ok-found.found wide.result
    c.in_ok-found.ensures.first

pub returns-clause-local : goal.returns-clause-local
returns-clause-local g c all set has other a =
    let network = g.R.Roads.network c.args.roads.now in
    let asked = c.args.asked.now in
    let q = asks (network asked.uid.now) asked.roots.now asked.target.now in
    let used = use_in c.args.used.now in
    let reach = number_at asked.reach.now in
    let holds = reach_holds network asked.roots.now reach c.requires.reach.enough asked.uid.now asked.target.now used in
    let wide = subst (IsWidestOrSpent network asked c.args.used.now) c.in-Some.is c.in_ok-widest.ensures.widest in
    let noted = subst (IsWidestNoted network asked c.args.used.now (g.N.Notes.noted c.widest.new.notes)) c.in-Some.is
    c.in_ok-widest.ensures.noted in
    both_local reach q used holds wide.in_order all c.in-Some.path c.in_ok-found.found set wide.result
    c.in_ok-found.ensures.first
    (looked_grows (widest_of network asked c.args.used.now) (length c.in-Some.path.steps)
    (g.N.Notes.noted c.widest.new.notes) (Has set) (λ fpr h. has fpr (c.in_ok-found.ensures.grows fpr h)) noted) other a

pub returns-in_err-widest-clause-grows : goal.returns-in_err-widest-clause-grows
returns-in_err-widest-clause-grows g c = c.in_err-widest.ensures.grows

pub returns-in_err-widest-clause-leads : goal.returns-in_err-widest-clause-leads
returns-in_err-widest-clause-leads g c = c.in_err-widest.ensures.leads

pub returns-in-None-clause-grows : goal.returns-in-None-clause-grows
returns-in-None-clause-grows g c = c.in_ok-widest.ensures.grows

pub returns-in-None-clause-leads : goal.returns-in-None-clause-leads
returns-in-None-clause-leads g c = c.in_ok-widest.ensures.leads

pub returns-in_err-found-clause-grows : goal.returns-in_err-found-clause-grows
returns-in_err-found-clause-grows g c fpr h = c.in_err-found.ensures.grows fpr (c.in_ok-widest.ensures.grows fpr h)

pub returns-in_err-found-clause-leads : goal.returns-in_err-found-clause-leads
returns-in_err-found-clause-leads g c fpr h =
    elim (c.in_err-found.ensures.leads fpr h) [ inl k ↦ c.in_ok-widest.ensures.leads fpr k | inr l ↦ inr l ]

pub returns-clause-grows : goal.returns-clause-grows
returns-clause-grows g c fpr h = c.in_ok-found.ensures.grows fpr (c.in_ok-widest.ensures.grows fpr h)

pub returns-clause-leads : goal.returns-clause-leads
returns-clause-leads g c fpr h =
    elim (c.in_ok-found.ensures.leads fpr h) [ inl k ↦ c.in_ok-widest.ensures.leads fpr k | inr l ↦ inr l ]
