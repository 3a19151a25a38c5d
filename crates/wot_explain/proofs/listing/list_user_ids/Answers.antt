use Rattle.wot_explain.proofs.Listed.{one_more, none_more}
use Rattle.wot_explain.proofs.listing.list_user_ids.Goals as goal

pub rest-preserved : goal.rest-preserved
rest-preserved g c end h =
    c.rest.invariant end (one_more (g.R.Roads.network c.args.roads.now) c.args.sought.now.roots.now
    c.args.sought.now.wanted c.args.fpr.now c.in-Some.uid.now c.in-Some.others.now c.rest.rest.now c.body.result.now
    c.rest.out.items c.list_pair.new.out.items end c.in-Some.ensures.cases.0 c.body.ensures.body
    c.in_ok-list_pair.ensures h)

pub returns : goal.returns
returns g c =
    c.rest.invariant c.rest.out.items (none_more (g.R.Roads.network c.args.roads.now) c.args.sought.now.roots.now
    c.args.sought.now.wanted c.args.fpr.now c.rest.rest.now c.rest.out.items c.in_default.ensures.cases)
