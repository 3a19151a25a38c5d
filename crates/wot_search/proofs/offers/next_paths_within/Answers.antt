use Rattle.std.proofs.Common.{inl, inr, length, Option, sym, subst}
use Rattle.std.specs.Prelude.{IfSome, Vec}
use Rattle.std.specs.declared.alloc.Global.{Global}
use Rattle.wot_edge.specs.declared.path.Path.{Path}
use Rattle.wot_edge.specs.Path.{asks}
use Rattle.wot_edge.specs.Record.{Has, IsRecord}
use Rattle.wot_edge.specs.Sums.{use_in}
use Rattle.wot_first_path.proofs.Layers.{looked_grows}
use Rattle.wot_search.specs.Asked.{AreNextIfSome, AreNextLocallyIfSome}
use Rattle.wot_search.specs.Offers.{AreNext}
use Rattle.wot_search.specs.Widest.{widest_of, IsWidestNoted, IsWidestOrSpent}
use Rattle.wot_search.proofs.offers.next_paths_within.Goals as goal

pub offers_after-requires-clause-widest : goal.offers_after-requires-clause-widest
offers_after-requires-clause-widest g c =
    subst (IsWidestOrSpent (g.R.Roads.network c.args.roads.now) c.args.asked.now c.args.used.now) c.in-Some-2.is
    c.in_ok-widest-in-None.ensures.widest

pub returns-in-Some-clause-next : goal.returns-in-Some-clause-next
returns-in-Some-clause-next g c =
    subst (AreNextIfSome (g.R.Roads.network c.args.roads.now) c.args.asked.now c.args.used.now) c.in-Some.is
    c.in_ok-paths.ensures.next

pub returns-in-Some-clause-local : goal.returns-in-Some-clause-local
returns-in-Some-clause-local g c =
    subst
    (AreNextLocallyIfSome (g.R.Roads.network c.args.roads.now) c.args.asked.now c.args.used.now
    (g.N.Notes.noted c.next_paths_by_one.new.notes)) c.in-Some.is c.in_ok-paths.ensures.local

pub returns-in-Some-clause-lawful : goal.returns-in-Some-clause-lawful
returns-in-Some-clause-lawful g c =
    subst
    (λ (found : Option (Vec Path Global)). IfSome found
    (λ (paths : Vec Path Global). IsRecord (g.R.Roads.network c.args.roads.now c.args.asked.now.uid.now))) c.in-Some.is
    c.in_ok-paths.ensures.lawful

pub returns-in-None-2-clause-next : goal.returns-in-None-2-clause-next
returns-in-None-2-clause-next g c =
    let asked = c.args.asked.now in
    let network = g.R.Roads.network c.args.roads.now in
    subst (AreNext asked.roots.now (asks (network asked.uid.now) asked.roots.now asked.target.now) (use_in c.args.used.now))
    (sym c.new.ensures.items)
    (subst (IsWidestOrSpent network asked c.args.used.now) c.in-None-2.is c.in_ok-widest-in-None.ensures.widest)

pub returns-in-None-2-clause-local : goal.returns-in-None-2-clause-local
returns-in-None-2-clause-local g c all set has other a =
    subst (AreNext c.args.asked.now.roots.now other (use_in c.args.used.now)) (sym c.new.ensures.items)
    (subst
    (IsWidestNoted (g.R.Roads.network c.args.roads.now) c.args.asked.now c.args.used.now
    (g.N.Notes.noted c.widest.new.notes)) c.in-None-2.is c.in_ok-widest-in-None.ensures.noted all set has other a)

pub returns-in_ok-paths-in-Some-2-clause-next : goal.returns-in_ok-paths-in-Some-2-clause-next
returns-in_ok-paths-in-Some-2-clause-next g c = c.in_ok-paths-in-Some-2.ensures.next

pub returns-in_ok-paths-in-Some-2-clause-local : goal.returns-in_ok-paths-in-Some-2-clause-local
returns-in_ok-paths-in-Some-2-clause-local g c all set has other a =
    let network = g.R.Roads.network c.args.roads.now in
    let noted = g.N.Notes.noted c.widest.new.notes in
    c.in_ok-paths-in-Some-2.ensures.local all other set a
    (looked_grows (widest_of network c.args.asked.now c.args.used.now) (length c.in-Some-2.path.steps) noted (Has set) has
    (subst (IsWidestNoted network c.args.asked.now c.args.used.now noted) c.in-Some-2.is c.in_ok-widest-in-None.ensures.noted))

pub returns-in_err-paths-clause-grows : goal.returns-in_err-paths-clause-grows
returns-in_err-paths-clause-grows g c = c.in_err-paths.ensures.grows

pub returns-in_err-paths-clause-leads : goal.returns-in_err-paths-clause-leads
returns-in_err-paths-clause-leads g c = c.in_err-paths.ensures.leads

pub returns-in-Some-clause-grows : goal.returns-in-Some-clause-grows
returns-in-Some-clause-grows g c = c.in_ok-paths.ensures.grows

pub returns-in-Some-clause-leads : goal.returns-in-Some-clause-leads
returns-in-Some-clause-leads g c = c.in_ok-paths.ensures.leads

pub returns-in_err-widest-in-None-clause-grows : goal.returns-in_err-widest-in-None-clause-grows
returns-in_err-widest-in-None-clause-grows g c fpr h =
    c.in_err-widest-in-None.ensures.grows fpr (c.in_ok-paths.ensures.grows fpr h)

pub returns-in_err-widest-in-None-clause-leads : goal.returns-in_err-widest-in-None-clause-leads
returns-in_err-widest-in-None-clause-leads g c fpr h =
    elim (c.in_err-widest-in-None.ensures.leads fpr h)
    [ inl k ↦ c.in_ok-paths.ensures.leads fpr k | inr l ↦ inr l ]

pub returns-in-None-2-clause-grows : goal.returns-in-None-2-clause-grows
returns-in-None-2-clause-grows g c fpr h =
    c.in_ok-widest-in-None.ensures.grows fpr (c.in_ok-paths.ensures.grows fpr h)

pub returns-in-None-2-clause-leads : goal.returns-in-None-2-clause-leads
returns-in-None-2-clause-leads g c fpr h =
    elim (c.in_ok-widest-in-None.ensures.leads fpr h)
    [ inl k ↦ c.in_ok-paths.ensures.leads fpr k | inr l ↦ inr l ]

pub returns-in_err-paths-in-Some-2-clause-grows : goal.returns-in_err-paths-in-Some-2-clause-grows
returns-in_err-paths-in-Some-2-clause-grows g c fpr h =
    c.in_ok-widest-in-None.ensures.grows fpr (c.in_ok-paths.ensures.grows fpr h)

pub returns-in_err-paths-in-Some-2-clause-leads : goal.returns-in_err-paths-in-Some-2-clause-leads
returns-in_err-paths-in-Some-2-clause-leads g c fpr h =
    elim (c.in_ok-widest-in-None.ensures.leads fpr h)
    [ inl k ↦ c.in_ok-paths.ensures.leads fpr k | inr l ↦ inr l ]

pub returns-in_ok-paths-in-Some-2-clause-grows : goal.returns-in_ok-paths-in-Some-2-clause-grows
returns-in_ok-paths-in-Some-2-clause-grows g c fpr h =
    c.in_ok-widest-in-None.ensures.grows fpr (c.in_ok-paths.ensures.grows fpr h)

pub returns-in_ok-paths-in-Some-2-clause-leads : goal.returns-in_ok-paths-in-Some-2-clause-leads
returns-in_ok-paths-in-Some-2-clause-leads g c fpr h =
    elim (c.in_ok-widest-in-None.ensures.leads fpr h)
    [ inl k ↦ c.in_ok-paths.ensures.leads fpr k | inr l ↦ inr l ]
