use Rattle.wot_first_path.proofs.extend.extend.Goals as goal

pub extend_onward-requires-clause-leads : goal.extend_onward-requires-clause-leads
extend_onward-requires-clause-leads g c = c.in-Some.ensures.leads (g.R.Roads.network c.args.search.now.roads.now) c.requires.onward

pub extend_all-requires-clause-usable : goal.extend_all-requires-clause-usable
extend_all-requires-clause-usable g c =
    (c.in-Some.ensures.leads (g.R.Roads.network c.args.search.now.roads.now) c.requires.onward).all
