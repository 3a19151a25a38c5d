use Rattle.wot_reach.proofs.making.make_reach.Goals as goal

pub returns : goal.returns
returns g c = record { reach = c.everywhere.ensures.reach (g.R.Roads.network c.args.roads.now) c.args.roots.now }
