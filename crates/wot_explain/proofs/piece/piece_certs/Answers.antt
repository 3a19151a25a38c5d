use Rattle.std.proofs.Common.{◌≡◌, List, [], arith, sym, subst}
use Rattle.std.specs.Option.{option_copied}
use Rattle.wot_component.specs.Certificate.{Certificate}
use Rattle.wot_explain.specs.Listing.{pairs_of_all}
use Rattle.wot_explain.specs.Piece.{AddsPiece}
use Rattle.wot_explain.proofs.Pieces.{cert_piece, none_piece, full_piece}
use Rattle.wot_explain.proofs.piece.piece_certs.Goals as goal

pub certs-preserved : goal.certs-preserved
certs-preserved g c end h =
    c.certs.invariant end (cert_piece (g.R.Roads.network c.args.roads.now) c.args.page.now.sought.roots.now
    c.args.page.now.sought.wanted (option_copied c.args.page.now.after) c.args.page.now.count
    c.in-Some.cert.now c.next.new.self c.certs.cert-iterator
    c.certs.out.items c.piece_cert.new.out.items end c.in-Some.ensures.steps c.in_ok-piece_cert.ensures h)

pub returns : goal.returns
returns g c =
    let network = g.R.Roads.network c.args.roads.now in
    let sought = c.args.page.now.sought in
    let out = c.certs.out.items in
    let none : c.certs.cert-iterator ≡ [] = c.in-None.ensures.steps.0 in
    c.certs.invariant out
    (subst (λ (cs : List Certificate). AddsPiece network sought.roots.now sought.wanted
    (option_copied c.args.page.now.after) c.args.page.now.count (pairs_of_all cs) out out) (sym none)
    (none_piece network sought.roots.now sought.wanted (option_copied c.args.page.now.after) c.args.page.now.count out))

pub returns-then-len-page : goal.returns-then-len-page
returns-then-len-page g c =
    c.certs.invariant c.certs.out.items (full_piece (g.R.Roads.network c.args.roads.now) c.args.page.now.sought.roots.now
    c.args.page.now.sought.wanted (option_copied c.args.page.now.after) c.args.page.now.count
    (pairs_of_all c.certs.cert-iterator) c.certs.out.items (omega (
      arith,
      c.if-len-page.true,
      c.len.ensures,
      c.certs.out.ok.0,
    )))
