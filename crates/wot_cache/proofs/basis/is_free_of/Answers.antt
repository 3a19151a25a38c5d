use Rattle.std.proofs.Common.{sym}
use Rattle.wot_cache.proofs.BasisStaysTrue.{free_more}
use Rattle.wot_cache.proofs.basis.is_free_of.Goals as goal

pub rest-preserved : goal.rest-preserved
rest-preserved c =
    free_more c.args.set.now.keys c.args.changed.now c.rest.rest.now c.in-Some.later.now c.in-Some.first.now
    c.in-Some.ensures.cases.0 c.rest.invariant
    (sym c.if-has.ensures.has)
