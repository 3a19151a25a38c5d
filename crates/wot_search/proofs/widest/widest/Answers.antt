use Rattle.std.proofs.Common.{inl, inr, [], sym, ◌∙◌}
use Rattle.wot_edge.specs.Path.{asks}
use Rattle.wot_edge.specs.Sums.{use_in}
use Rattle.wot_reach.specs.Reach.{number_at}
use Rattle.wot_reach.proofs.Within.{reach_holds}
use Rattle.wot_search.proofs.NextOfTwo.{unordered_next, unordered_local}
use Rattle.wot_search.proofs.WidestFound.{widest_is, widest_noted}
use Rattle.wot_search.proofs.widest.widest.Goals as goal

pub returns-clause-widest : goal.returns-clause-widest
returns-clause-widest g c =
    let network = g.R.Roads.network c.args.roads.now in
    let asked = c.args.asked.now in
    let holds = reach_holds network asked.roots.now (number_at asked.reach.now) c.requires.enough asked.uid.now
    asked.target.now (use_in c.args.used.now) in
    widest_is network asked c.args.used.now holds (sym c.in_order.ensures.in_order ∙ c.if-not-in_order.false)
    c.in_ok-found.found c.in_ok-found.ensures.first

pub returns-clause-noted : goal.returns-clause-noted
returns-clause-noted g c =
    let network = g.R.Roads.network c.args.roads.now in
    let asked = c.args.asked.now in
    let holds = reach_holds network asked.roots.now (number_at asked.reach.now) c.requires.enough asked.uid.now
    asked.target.now (use_in c.args.used.now) in
    widest_noted network asked c.args.used.now holds (g.N.Notes.noted c.first.new.notes) c.in_ok-found.found
    c.in_ok-found.ensures.first c.in_ok-found.ensures.looked

pub returns-clause-grows : goal.returns-clause-grows
returns-clause-grows g c fpr h = c.in_ok-found.ensures.grows fpr (c.in_ok-note.ensures.grows fpr h)

pub returns-clause-leads : goal.returns-clause-leads
returns-clause-leads g c fpr h =
    elim (c.in_ok-found.ensures.leads fpr h)
    [ inl k0 ↦ elim (c.in_ok-note.ensures.only fpr k0) [ inl k1 ↦ inl k1 | inr e ↦ inr ([], tt, e) ] | inr l ↦ inr l ]

pub returns-in_err-note-clause-grows : goal.returns-in_err-note-clause-grows
returns-in_err-note-clause-grows g c fpr h = c.in_err-note.ensures.grows fpr h

pub returns-in_err-note-clause-leads : goal.returns-in_err-note-clause-leads
returns-in_err-note-clause-leads g c fpr h =
    elim (c.in_err-note.ensures.only fpr h) [ inl k ↦ inl k | inr e ↦ inr ([], tt, e) ]

pub returns-then-not-in_order-clause-grows : goal.returns-then-not-in_order-clause-grows
returns-then-not-in_order-clause-grows g c fpr h = c.in_ok-note.ensures.grows fpr h

pub returns-then-not-in_order-clause-leads : goal.returns-then-not-in_order-clause-leads
returns-then-not-in_order-clause-leads g c fpr h =
    elim (c.in_ok-note.ensures.only fpr h) [ inl k ↦ inl k | inr e ↦ inr ([], tt, e) ]

pub returns-in_err-found-clause-grows : goal.returns-in_err-found-clause-grows
returns-in_err-found-clause-grows g c fpr h = c.in_err-found.ensures.grows fpr (c.in_ok-note.ensures.grows fpr h)

pub returns-in_err-found-clause-leads : goal.returns-in_err-found-clause-leads
returns-in_err-found-clause-leads g c fpr h =
    elim (c.in_err-found.ensures.leads fpr h)
    [ inl k0 ↦ elim (c.in_ok-note.ensures.only fpr k0) [ inl k1 ↦ inl k1 | inr e ↦ inr ([], tt, e) ] | inr l ↦ inr l ]

pub returns-then-not-in_order-clause-widest : goal.returns-then-not-in_order-clause-widest
returns-then-not-in_order-clause-widest g c =
    let q = asks (g.R.Roads.network c.args.roads.now c.args.asked.now.uid.now) c.args.asked.now.roots.now
    c.args.asked.now.target.now in
    unordered_next q (use_in c.args.used.now) (sym c.in_order.ensures.in_order ∙ c.if-not-in_order.true)

pub returns-then-not-in_order-clause-noted : goal.returns-then-not-in_order-clause-noted
returns-then-not-in_order-clause-noted g c all set has other a =
    let q = asks (g.R.Roads.network c.args.roads.now c.args.asked.now.uid.now) c.args.asked.now.roots.now
    c.args.asked.now.target.now in
    unordered_local q (use_in c.args.used.now) set (has _ c.in_ok-note.ensures.has)
    (sym c.in_order.ensures.in_order ∙ c.if-not-in_order.true) other a
