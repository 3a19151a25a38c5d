use Rattle.std.proofs.Common.{length}
use Rattle.wot_edge.specs.Path.{asks}
use Rattle.wot_check.proofs.ShownPaths.{SomeShown}
use Rattle.wot_check.proofs.show.show_all.Given as goal

abbrev pub invariant-rest : goal.invariant-rest
invariant-rest g l =
    let q = asks (g.R.Roads.network l.roads l.uid) l.roots l.target in
    SomeShown q l.used l.claims l.rest

abbrev pub decreases-rest : goal.decreases-rest
decreases-rest g l = length l.rest
