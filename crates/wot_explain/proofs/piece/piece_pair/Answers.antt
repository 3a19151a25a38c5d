use Rattle.std.proofs.Common.{◌∷◌, [], arith, sym, ◌∙◌}
use Rattle.std.specs.Option.{option_copied}
use Rattle.wot_explain.specs.Listing.{Pair}
use Rattle.wot_explain.proofs.Pieces.{full_piece, missed_piece, taken_piece}
use Rattle.wot_explain.proofs.piece.piece_pair.Goals as goal

pub returns-then-len-page : goal.returns-then-len-page
returns-then-len-page g c =
    let pair : Pair = (c.args.fpr.now, c.args.uid.now) in
    full_piece (g.R.Roads.network c.args.roads.now) c.args.page.now.sought.roots.now c.args.page.now.sought.wanted
    (option_copied c.args.page.now.after) c.args.page.now.count
    (pair ∷ []) c.args.out.now.items (omega (arith, c.if-len-page.true, c.len.ensures, c.args.out.now.ok.0))

pub returns-then-not-comes_after : goal.returns-then-not-comes_after
returns-then-not-comes_after g c =
    missed_piece (g.R.Roads.network c.args.roads.now) c.args.page.now.sought.roots.now c.args.page.now.sought.wanted
    (option_copied c.args.page.now.after) c.args.page.now.count
    (c.args.fpr.now, c.args.uid.now) c.args.out.now.items (sym c.comes_after.ensures ∙ c.if-not-comes_after.true)

pub returns : goal.returns
returns g c =
    taken_piece (g.R.Roads.network c.args.roads.now) c.args.page.now.sought.roots.now c.args.page.now.sought.wanted
    (option_copied c.args.page.now.after) c.args.page.now.count
    (c.args.fpr.now, c.args.uid.now) c.args.out.now.items c.list_pair.new.out.items (sym c.comes_after.ensures
    ∙ c.if-not-comes_after.false)
    (omega (arith, c.if-len-page.false, c.len.ensures, c.args.out.now.ok.0)) c.in_ok-list_pair.ensures
