use Rattle.std.specs.Option.{option_copied}
use Rattle.wot_explain.proofs.Pieces.{piece_more, piece_end}
use Rattle.wot_explain.proofs.piece.piece_user_ids.Goals as goal

pub rest-preserved : goal.rest-preserved
rest-preserved g c end h =
    c.rest.invariant end (piece_more (g.R.Roads.network c.args.roads.now) c.args.page.now.sought.roots.now
    c.args.page.now.sought.wanted (option_copied c.args.page.now.after) c.args.page.now.count
    c.args.fpr.now c.in-Some.uid.now c.in-Some.others.now c.rest.rest.now c.body.result.now
    c.rest.out.items c.piece_pair.new.out.items end c.in-Some.ensures.cases.0 c.body.ensures.body
    c.in_ok-piece_pair.ensures h)

pub returns : goal.returns
returns g c =
    c.rest.invariant c.rest.out.items (piece_end (g.R.Roads.network c.args.roads.now) c.args.page.now.sought.roots.now
    c.args.page.now.sought.wanted (option_copied c.args.page.now.after) c.args.page.now.count
    c.args.fpr.now c.rest.rest.now c.rest.out.items c.in_default.ensures.cases)
