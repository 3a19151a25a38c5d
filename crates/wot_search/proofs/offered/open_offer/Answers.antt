use Rattle.std.proofs.Common.{◌≡◌, true, sym, ◌∙◌, arith}
use Rattle.wot_edge.specs.Sums.{use_in}
use Rattle.wot_search.specs.Offers.{is_left}
use Rattle.wot_search.proofs.TakenOffer.{opened}
use Rattle.wot_search.proofs.offered.open_offer.Goals as goal

pub returns : goal.returns
returns c q o =
    let path = c.in-Some.path in
    let enough = c.if-left_of-path.false in
    let at = c.left_of.ensures in
    let items = c.as_slice.ensures.items in
    let left : is_left (use_in c.args.used.now) path.amount path.steps ≡ true =
    (let h = c.have_left.ensures in let f = c.if-not-have_left.false in cc) in
    opened c.args.roots.now q (use_in c.args.used.now) c.args.offers.now path (sym c.in-Some.is ∙ c.in_ok-path.ensures)
    o (omega (arith, enough, at)) left
