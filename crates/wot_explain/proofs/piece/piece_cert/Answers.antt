use Rattle.std.proofs.Common.{List, OnOk, map, subst}
use Rattle.wot_types.specs.declared.fpr.Fpr.{Fpr}
use Rattle.wot_component.specs.Certificate.{Component}
use Rattle.wot_explain.specs.Listing.{pair_of}
use Rattle.wot_explain.specs.Piece.{GoesOn}
use Rattle.wot_explain.proofs.piece.piece_cert.Goals as goal

pub returns : goal.returns
returns g c =
    let done : Fpr → List Component → Type 0 = λ fpr uids. OnOk c.piece_user_ids.result
    (GoesOn (g.R.Roads.network c.args.roads.now) c.args.page.now (map (pair_of fpr) uids) c.args.out.now
    c.piece_user_ids.new.out) in
    subst (λ (fpr : Fpr). done fpr c.args.cert.now.user_ids) c.fpr.ensures.fpr
    (subst (done c.fpr.result) c.user_ids.ensures.user_ids c.piece_user_ids.ensures)
