use Rattle.std.proofs.Common.{List}
use Rattle.wot_explain.specs.declared.bind.Bind.{Bind}
use Rattle.wot_explain.specs.Listing.{AddsListed, pairs_of_all}
use Rattle.wot_explain.proofs.listing.list_certs.Given as goal

abbrev pub invariant-certs : goal.invariant-certs
invariant-certs g l = (end : List Bind)
    → AddsListed (g.R.Roads.network l.roads) l.sought.roots.now l.sought.wanted (pairs_of_all l.cert-iterator) l.out.items
    end
    → AddsListed (g.R.Roads.network l.roads) l.sought.roots.now l.sought.wanted (pairs_of_all l.fn.certs) l.fn.out.items
    end
