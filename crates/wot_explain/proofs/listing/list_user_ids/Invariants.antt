use Rattle.std.proofs.Common.{List, length, map}
use Rattle.wot_explain.specs.declared.bind.Bind.{Bind}
use Rattle.wot_explain.specs.Listing.{AddsListed, pair_of}
use Rattle.wot_explain.proofs.listing.list_user_ids.Given as goal

abbrev pub invariant-rest : goal.invariant-rest
invariant-rest g l = (end : List Bind)
    → AddsListed (g.R.Roads.network l.roads) l.sought.roots.now l.sought.wanted (map (pair_of l.fpr) l.rest) l.out.items
    end
    → AddsListed (g.R.Roads.network l.roads) l.sought.roots.now l.sought.wanted (map (pair_of l.fpr) l.user_ids)
    l.fn.out.items end

abbrev pub decreases-rest : goal.decreases-rest
decreases-rest g l = length l.rest
