use Rattle.std.proofs.Common.{sym, subst}
use Rattle.wot_reach.specs.Onward.{AreOnward}
use Rattle.wot_reach.specs.Reach.{Table, number_at}
use Rattle.wot_reach.proofs.reach.Reach.add.Goals as goal

pub put_onward-requires-clause-onward : goal.put_onward-requires-clause-onward
put_onward-requires-clause-onward g c =
    subst (λ (table : Table). AreOnward (g.R.Roads.network c.args.roads.now) (number_at table) table.onward)
    (sym c.self.view_is) c.requires.onward
