use Rattle.std.proofs.Common.{List, length, map}
use Rattle.std.specs.Option.{option_copied}
use Rattle.wot_explain.specs.declared.bind.Bind.{Bind}
use Rattle.wot_explain.specs.Listing.{pair_of}
use Rattle.wot_explain.specs.Piece.{AddsPiece}
use Rattle.wot_explain.proofs.piece.piece_user_ids.Given as goal

abbrev pub invariant-rest : goal.invariant-rest
invariant-rest g l = (end : List Bind)
    → AddsPiece (g.R.Roads.network l.roads) l.page.sought.roots.now l.page.sought.wanted
    (option_copied l.page.after) l.page.count
    (map (pair_of l.fpr) l.rest) l.out.items end
    → AddsPiece (g.R.Roads.network l.roads) l.page.sought.roots.now l.page.sought.wanted
    (option_copied l.page.after) l.page.count
    (map (pair_of l.fpr) l.user_ids) l.fn.out.items end

abbrev pub decreases-rest : goal.decreases-rest
decreases-rest g l = length l.rest
