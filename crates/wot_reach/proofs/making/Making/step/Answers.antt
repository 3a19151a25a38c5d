use Rattle.wot_reach.proofs.making.Making.step.Goals as goal

pub returns-in-Placing : goal.returns-in-Placing
returns-in-Placing g c = record { making = c.placed.ensures.making (g.R.Roads.network c.args.roads.now) c.args.roots.now }

pub returns-in-Linking : goal.returns-in-Linking
returns-in-Linking g c = record { making = c.linked.ensures.making (g.R.Roads.network c.args.roads.now) c.args.roots.now }

pub returns-in-Passing : goal.returns-in-Passing
returns-in-Passing g c = record { making = c.passed.ensures.making (g.R.Roads.network c.args.roads.now) c.args.roots.now }

pub returns-in-Numbering : goal.returns-in-Numbering
returns-in-Numbering g c =
    record { making = c.number.ensures.making (g.R.Roads.network c.args.roads.now) c.args.roots.now }
