use Rattle.std.proofs.Common.{◌≡◌, List, [], sym, subst}
use Rattle.wot_component.specs.Certificate.{Certificate}
use Rattle.wot_explain.specs.Listing.{AddsListed, pairs_of_all}
use Rattle.wot_explain.proofs.Listed.{one_cert, none_added}
use Rattle.wot_explain.proofs.listing.list_certs.Goals as goal

pub certs-preserved : goal.certs-preserved
certs-preserved g c end h =
    c.certs.invariant end (one_cert (g.R.Roads.network c.args.roads.now) c.args.sought.now.roots.now
    c.args.sought.now.wanted c.in-Some.cert.now c.next.new.self c.certs.cert-iterator
    c.certs.out.items c.list_cert.new.out.items end c.in-Some.ensures.steps c.in_ok-list_cert.ensures h)

pub returns : goal.returns
returns g c =
    let network = g.R.Roads.network c.args.roads.now in
    let out = c.certs.out.items in
    let none : c.certs.cert-iterator ≡ [] = c.in-None.ensures.steps.0 in
    c.certs.invariant out
    (subst (λ (cs : List Certificate). AddsListed network c.args.sought.now.roots.now c.args.sought.now.wanted
    (pairs_of_all cs) out out) (sym none) (none_added network c.args.sought.now.roots.now c.args.sought.now.wanted
    out))
