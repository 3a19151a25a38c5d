use Rattle.std.proofs.Common.{List}
use Rattle.std.specs.Option.{option_copied}
use Rattle.wot_explain.specs.declared.bind.Bind.{Bind}
use Rattle.wot_explain.specs.Listing.{pairs_of_all}
use Rattle.wot_explain.specs.Piece.{AddsPiece}
use Rattle.wot_explain.proofs.piece.piece_certs.Given as goal

abbrev pub invariant-certs : goal.invariant-certs
invariant-certs g l = (end : List Bind)
    → AddsPiece (g.R.Roads.network l.roads) l.page.sought.roots.now l.page.sought.wanted
    (option_copied l.page.after) l.page.count
    (pairs_of_all l.cert-iterator) l.out.items end
    → AddsPiece (g.R.Roads.network l.roads) l.page.sought.roots.now l.page.sought.wanted
    (option_copied l.page.after) l.page.count
    (pairs_of_all l.fn.certs) l.fn.out.items end
