use Rattle.std.proofs.Common.{ℕ, length, ap, subst}
use Rattle.wot_edge.specs.Path.{asks}
use Rattle.wot_edge.specs.Sums.{use_in}
use Rattle.wot_reach.specs.Reach.{number_at}
use Rattle.wot_reach.proofs.Within.{reach_holds}
use Rattle.wot_first_path.specs.Reached.{look}
use Rattle.wot_first_path.proofs.Rooted.{least_quest}
use Rattle.wot_search.specs.Offers.{AreFoundOffers}
use Rattle.wot_search.proofs.OfRoots.{found_offers, found_there}
use Rattle.wot_search.proofs.offers.offers_after.Goals as goal

pub returns-clause-next : goal.returns-clause-next
returns-clause-next g c =
    let network = g.R.Roads.network c.args.roads.now in
    let asked = c.args.asked.now in
    let q = asks (network asked.uid.now) asked.roots.now asked.target.now in
    let used = use_in c.args.used.now in
    let reach = number_at asked.reach.now in
    let holds = reach_holds network asked.roots.now reach c.requires.reach.enough asked.uid.now asked.target.now used in
    found_offers reach q (c.requires.lawful asked.uid.now) used holds c.requires.widest.in_order c.args.wide.now
    c.requires.widest.result _ (ap length c.as_slice.ensures.items) c.in_ok-paths.paths.items
    c.len-count.ensures.roots.order c.in_ok-paths.ensures

pub returns-clause-local : goal.returns-clause-local
returns-clause-local g c =
    let network = g.R.Roads.network c.args.roads.now in
    let asked = c.args.asked.now in
    let q = asks (network asked.uid.now) asked.roots.now asked.target.now in
    let used = use_in c.args.used.now in
    let reach = number_at asked.reach.now in
    let holds = reach_holds network asked.roots.now reach c.requires.reach.enough asked.uid.now asked.target.now used in
    let o = subst
    (λ (n : ℕ). AreFoundOffers (least_quest reach q used c.args.wide.now.amount) n asked.roots.now
    c.in_ok-paths.paths.items) (ap length c.as_slice.ensures.items) c.in_ok-paths.ensures in
    found_there reach q (c.requires.lawful asked.uid.now) used holds c.requires.widest.in_order c.args.wide.now
    c.requires.widest.result (look o.reached.nodes) o.after.entries o.after.complete c.in_ok-paths.paths.items
    c.len-count.ensures.roots.order o.offered
