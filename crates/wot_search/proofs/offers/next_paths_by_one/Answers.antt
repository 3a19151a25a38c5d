use Rattle.std.proofs.Common.{inl, inr, [], ℕ, Option, length, ap, sym, subst, ◌∙◌}
use Rattle.wot_edge.specs.declared.path.Path.{Path}
use Rattle.wot_edge.specs.Path.{asks}
use Rattle.wot_edge.specs.Record.{Has}
use Rattle.wot_edge.specs.Sums.{use_in}
use Rattle.wot_first_path.specs.Growth.{IsAfterPath, IsResult, IsLookedBy}
use Rattle.wot_search.specs.Offers.{AreNext, AreOfferedBy}
use Rattle.wot_reach.specs.Reach.{number_at}
use Rattle.wot_first_path.specs.Reached.{look}
use Rattle.wot_first_path.proofs.Layers.{looked_grows}
use Rattle.wot_search.proofs.NextOfTwo.{spent_next, spent_local, unordered_next, unordered_local}
use Rattle.wot_search.proofs.OfRoots.{found_next, found_there}
use Rattle.wot_search.proofs.OneSearch.{none_wide, some_wide, looked_wide, path_some, roots_left, after_more}
use Rattle.wot_first_path.proofs.Rooted.{widest_quest, least_quest}
use Rattle.wot_reach.proofs.Within.{reach_holds}
use Rattle.wot_search.proofs.offers.next_paths_by_one.Goals as goal

pub returns-in-None-clause-next : goal.returns-in-None-clause-next
returns-in-None-clause-next g c =
    let network = g.R.Roads.network c.args.roads.now in
    let q = asks (network c.args.asked.now.uid.now) c.args.asked.now.roots.now c.args.asked.now.target.now in
    let used = use_in c.args.used.now in
    let reach = number_at c.args.asked.now.reach.now in
    let holds = reach_holds network c.args.asked.now.roots.now reach c.requires.reach.enough c.args.asked.now.uid.now
    c.args.asked.now.target.now used in
    subst (AreNext c.args.asked.now.roots.now q used) (sym c.new-in-None.ensures.items)
    (spent_next reach q used holds
    (none_wide reach q used
    (subst (λ (o : Option Path). IsResult (least_quest reach q used 1) o) c.in-None.is
    c.in_ok-first_from.ensures.first)))

pub returns-in-None-clause-local : goal.returns-in-None-clause-local
returns-in-None-clause-local g c all set has other a =
    let network = g.R.Roads.network c.args.roads.now in
    let q = asks (network c.args.asked.now.uid.now) c.args.asked.now.roots.now c.args.asked.now.target.now in
    let used = use_in c.args.used.now in
    let reach = number_at c.args.asked.now.reach.now in
    let holds = reach_holds network c.args.asked.now.roots.now reach c.requires.reach.enough c.args.asked.now.uid.now
    c.args.asked.now.target.now used in
    let l = subst
    (λ (o : Option Path). IsLookedBy (least_quest reach q used 1) (g.N.Notes.noted c.first_from.new.notes) o)
    c.in-None.is c.in_ok-first_from.ensures.looked in
    subst (AreNext c.args.asked.now.roots.now other used) (sym c.new-in-None.ensures.items)
    (spent_local reach all q used holds set
    (none_wide reach q used
    (subst (λ (o : Option Path). IsResult (least_quest reach q used 1) o) c.in-None.is
    c.in_ok-first_from.ensures.first))
    (looked_grows (widest_quest reach q used) 255 (g.N.Notes.noted c.first_from.new.notes) (Has set) has
    (looked_wide reach q used 255 (g.N.Notes.noted c.first_from.new.notes) l)) other a)

pub returns-clause-next : goal.returns-clause-next
returns-clause-next g c =
    let network = g.R.Roads.network c.args.roads.now in
    let q = asks (network c.args.asked.now.uid.now) c.args.asked.now.roots.now c.args.asked.now.target.now in
    let used = use_in c.args.used.now in
    let reach = number_at c.args.asked.now.reach.now in
    let holds = reach_holds network c.args.asked.now.roots.now reach c.requires.reach.enough c.args.asked.now.uid.now
    c.args.asked.now.target.now used in
    let path = c.in-Some.path in
    let most = roots_left q used path.amount (c.serves.ensures.most c.if-not-serves.false) in
    let least = subst (λ (o : Option Path). IsResult (least_quest reach q used 1) o) c.in-Some.is
    c.in_ok-first_from.ensures.first in
    let after = subst
    (λ (o : Option Path). IsAfterPath (least_quest reach q used 1) c.first_from.new.reached
    (g.N.Notes.noted c.first_from.new.notes) o) c.in-Some.is c.in_ok-first_from.ensures.after in
    let more = after_more reach q used path.amount (length path.steps) c.first_from.new.reached
    (g.N.Notes.noted c.first_from.new.notes) (path_some reach q used path least)
    (c.serves.ensures.wide c.if-not-serves.false) after in
    let offered =
    subst (λ (n : ℕ). AreOfferedBy (least_quest reach q used path.amount) (look c.first_from.new.reached.nodes) n
    c.args.asked.now.roots.now c.in_ok-paths-in-Some.paths.items) (ap length c.as_slice.ensures.items)
    (c.in_ok-paths-in-Some.ensures network) in
    found_next reach q (c.in_order.ensures.lawful c.args.asked.now.uid.now) used holds
    (sym c.in_order.ensures.in_order ∙ c.if-not-in_order.false) path (some_wide reach q used path most least)
    (look c.first_from.new.reached.nodes) more.entries more.complete
    c.in_ok-paths-in-Some.paths.items c.len-count.ensures.roots.order offered

pub returns-clause-local : goal.returns-clause-local
returns-clause-local g c all set has other a =
    let network = g.R.Roads.network c.args.roads.now in
    let q = asks (network c.args.asked.now.uid.now) c.args.asked.now.roots.now c.args.asked.now.target.now in
    let used = use_in c.args.used.now in
    let reach = number_at c.args.asked.now.reach.now in
    let holds = reach_holds network c.args.asked.now.roots.now reach c.requires.reach.enough c.args.asked.now.uid.now
    c.args.asked.now.target.now used in
    let path = c.in-Some.path in
    let most = roots_left q used path.amount (c.serves.ensures.most c.if-not-serves.false) in
    let least = subst (λ (o : Option Path). IsResult (least_quest reach q used 1) o) c.in-Some.is
    c.in_ok-first_from.ensures.first in
    let after = subst
    (λ (o : Option Path). IsAfterPath (least_quest reach q used 1) c.first_from.new.reached
    (g.N.Notes.noted c.first_from.new.notes) o) c.in-Some.is c.in_ok-first_from.ensures.after in
    let looked = subst
    (λ (o : Option Path). IsLookedBy (least_quest reach q used 1) (g.N.Notes.noted c.first_from.new.notes) o)
    c.in-Some.is c.in_ok-first_from.ensures.looked in
    let more = after_more reach q used path.amount (length path.steps) c.first_from.new.reached
    (g.N.Notes.noted c.first_from.new.notes) (path_some reach q used path least)
    (c.serves.ensures.wide c.if-not-serves.false) after in
    let offered =
    subst (λ (n : ℕ). AreOfferedBy (least_quest reach q used path.amount) (look c.first_from.new.reached.nodes) n
    c.args.asked.now.roots.now c.in_ok-paths-in-Some.paths.items) (ap length c.as_slice.ensures.items)
    (c.in_ok-paths-in-Some.ensures network) in
    found_there reach q (c.in_order.ensures.lawful c.args.asked.now.uid.now) used holds
    (sym c.in_order.ensures.in_order ∙ c.if-not-in_order.false) path (some_wide reach q used path most least)
    (look c.first_from.new.reached.nodes) more.entries more.complete
    c.in_ok-paths-in-Some.paths.items c.len-count.ensures.roots.order offered
    all other set a
    (looked_grows (widest_quest reach q used) (length path.steps) (g.N.Notes.noted c.first_from.new.notes) (Has set) has
    (looked_wide reach q used (length path.steps) (g.N.Notes.noted c.first_from.new.notes) looked))

pub returns-then-is_everywhere-clause-grows : goal.returns-then-is_everywhere-clause-grows
returns-then-is_everywhere-clause-grows g c fpr h = h

pub returns-then-is_everywhere-clause-leads : goal.returns-then-is_everywhere-clause-leads
returns-then-is_everywhere-clause-leads g c fpr h = inl h

pub returns-in_err-note-clause-grows : goal.returns-in_err-note-clause-grows
returns-in_err-note-clause-grows g c = c.in_err-note.ensures.grows

pub returns-in_err-note-clause-leads : goal.returns-in_err-note-clause-leads
returns-in_err-note-clause-leads g c fpr h =
    elim (c.in_err-note.ensures.only fpr h) [ inl k1 ↦ inl k1 | inr e ↦ inr ([], tt, e) ]

pub returns-then-not-in_order-clause-grows : goal.returns-then-not-in_order-clause-grows
returns-then-not-in_order-clause-grows g c = c.in_ok-note.ensures.grows

pub returns-then-not-in_order-clause-leads : goal.returns-then-not-in_order-clause-leads
returns-then-not-in_order-clause-leads g c fpr h =
    elim (c.in_ok-note.ensures.only fpr h) [ inl k1 ↦ inl k1 | inr e ↦ inr ([], tt, e) ]

pub returns-in_err-reached-clause-grows : goal.returns-in_err-reached-clause-grows
returns-in_err-reached-clause-grows g c = c.in_ok-note.ensures.grows

pub returns-in_err-reached-clause-leads : goal.returns-in_err-reached-clause-leads
returns-in_err-reached-clause-leads g c fpr h =
    elim (c.in_ok-note.ensures.only fpr h) [ inl k1 ↦ inl k1 | inr e ↦ inr ([], tt, e) ]

pub returns-in_err-first_from-clause-grows : goal.returns-in_err-first_from-clause-grows
returns-in_err-first_from-clause-grows g c fpr h =
    c.in_err-first_from.ensures.grows fpr (c.in_ok-note.ensures.grows fpr h)

pub returns-in_err-first_from-clause-leads : goal.returns-in_err-first_from-clause-leads
returns-in_err-first_from-clause-leads g c fpr h =
    elim (c.in_err-first_from.ensures.leads fpr h)
    [ inl k0 ↦ elim (c.in_ok-note.ensures.only fpr k0) [ inl k1 ↦ inl k1 | inr e ↦ inr ([], tt, e) ] | inr l ↦ inr l ]

pub returns-in-None-clause-grows : goal.returns-in-None-clause-grows
returns-in-None-clause-grows g c fpr h =
    c.in_ok-first_from.ensures.grows fpr (c.in_ok-note.ensures.grows fpr h)

pub returns-in-None-clause-leads : goal.returns-in-None-clause-leads
returns-in-None-clause-leads g c fpr h =
    elim (c.in_ok-first_from.ensures.leads fpr h)
    [ inl k0 ↦ elim (c.in_ok-note.ensures.only fpr k0) [ inl k1 ↦ inl k1 | inr e ↦ inr ([], tt, e) ] | inr l ↦ inr l ]

pub returns-then-not-serves-clause-grows : goal.returns-then-not-serves-clause-grows
returns-then-not-serves-clause-grows g c fpr h =
    c.in_ok-first_from.ensures.grows fpr (c.in_ok-note.ensures.grows fpr h)

pub returns-then-not-serves-clause-leads : goal.returns-then-not-serves-clause-leads
returns-then-not-serves-clause-leads g c fpr h =
    elim (c.in_ok-first_from.ensures.leads fpr h)
    [ inl k0 ↦ elim (c.in_ok-note.ensures.only fpr k0) [ inl k1 ↦ inl k1 | inr e ↦ inr ([], tt, e) ] | inr l ↦ inr l ]

pub returns-in_err-paths-in-Some-clause-grows : goal.returns-in_err-paths-in-Some-clause-grows
returns-in_err-paths-in-Some-clause-grows g c fpr h =
    c.in_ok-first_from.ensures.grows fpr (c.in_ok-note.ensures.grows fpr h)

pub returns-in_err-paths-in-Some-clause-leads : goal.returns-in_err-paths-in-Some-clause-leads
returns-in_err-paths-in-Some-clause-leads g c fpr h =
    elim (c.in_ok-first_from.ensures.leads fpr h)
    [ inl k0 ↦ elim (c.in_ok-note.ensures.only fpr k0) [ inl k1 ↦ inl k1 | inr e ↦ inr ([], tt, e) ] | inr l ↦ inr l ]

pub returns-clause-grows : goal.returns-clause-grows
returns-clause-grows g c fpr h =
    c.in_ok-first_from.ensures.grows fpr (c.in_ok-note.ensures.grows fpr h)

pub returns-clause-leads : goal.returns-clause-leads
returns-clause-leads g c fpr h =
    elim (c.in_ok-first_from.ensures.leads fpr h)
    [ inl k0 ↦ elim (c.in_ok-note.ensures.only fpr k0) [ inl k1 ↦ inl k1 | inr e ↦ inr ([], tt, e) ] | inr l ↦ inr l ]

pub returns-then-not-in_order-clause-next : goal.returns-then-not-in_order-clause-next
returns-then-not-in_order-clause-next g c =
    let q = asks (g.R.Roads.network c.args.roads.now c.args.asked.now.uid.now) c.args.asked.now.roots.now
    c.args.asked.now.target.now in
    let used = use_in c.args.used.now in
    subst (AreNext c.args.asked.now.roots.now q used) (sym c.new.ensures.items)
    (unordered_next q used (sym c.in_order.ensures.in_order ∙ c.if-not-in_order.true))

pub returns-then-not-in_order-clause-local : goal.returns-then-not-in_order-clause-local
returns-then-not-in_order-clause-local g c all set has other a =
    let q = asks (g.R.Roads.network c.args.roads.now c.args.asked.now.uid.now) c.args.asked.now.roots.now
    c.args.asked.now.target.now in
    let used = use_in c.args.used.now in
    subst (AreNext c.args.asked.now.roots.now other used) (sym c.new.ensures.items)
    (unordered_local q used set (has _ c.in_ok-note.ensures.has) (sym c.in_order.ensures.in_order ∙ c.if-not-in_order.true)
    other a)
