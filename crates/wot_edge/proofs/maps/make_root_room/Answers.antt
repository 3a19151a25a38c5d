use Rattle.std.proofs.Common.{◌≡◌, Ordering, subst}
use Rattle.wot_types.specs.declared.fpr.Fpr.{Fpr}
use Rattle.wot_types.specs.FprLaws.{same_cmp}
use Rattle.wot_edge.specs.Sums.{sum_at}
use Rattle.wot_edge.proofs.maps.make_root_room.Goals as goal

pub returns-clause-same : goal.returns-clause-same
returns-clause-same c =
    let P : (Fpr → Fpr → Ordering) → Type 0 =
    λ cmp. (q : Fpr) → sum_at cmp c.make_room.new.sums.entries q ≡ sum_at cmp c.args.sums.now.entries q in
    subst P same_cmp c.make_room.ensures.same
