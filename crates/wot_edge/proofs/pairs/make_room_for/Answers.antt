use Rattle.std.proofs.Common.{◌≡◌, IsSome, Ordering, subst}
use Rattle.std.specs.BTreeMap.{is_at}
use Rattle.std.specs.Map.{lookup}
use Rattle.wot_edge.specs.declared.used.Pair.{Pair}
use Rattle.wot_edge.specs.Sums.{sum_at}
use Rattle.wot_edge.proofs.PairSums.{same_pair_cmp}
use Rattle.wot_edge.proofs.pairs.make_room_for.Goals as goal

pub returns-clause-same : goal.returns-clause-same
returns-clause-same c =
    let P : (Pair → Pair → Ordering) → Type 0 =
    λ cmp. (q : Pair) → sum_at cmp c.make_room.new.sums.entries q ≡ sum_at cmp c.args.pairs.now.entries q in
    subst P same_pair_cmp c.make_room.ensures.same

pub returns-clause-others : goal.returns-clause-others
returns-clause-others c =
    let P : (Pair → Pair → Ordering) → Type 0 =
    λ cmp. (q : Pair) → IsSome (lookup (is_at (cmp q)) c.args.pairs.now.entries)
    → IsSome (lookup (is_at (cmp q)) c.make_room.new.sums.entries) in
    subst P same_pair_cmp c.make_room.ensures.others
