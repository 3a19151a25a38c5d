use Rattle.std.proofs.Common.{Ordering, subst}
use Rattle.std.specs.List.Sorted.{IsStrictlySortedBy}
use Rattle.std.specs.Map.{keys_of}
use Rattle.wot_standing.specs.declared.places.Certified.{Certified}
use Rattle.wot_standing.proofs.Placing.{same_certified_cmp}
use Rattle.wot_standing.proofs.places.count.Goals as goal

pub returns-clause-sorted : goal.returns-clause-sorted
returns-clause-sorted c =
    let P : (Certified → Certified → Ordering) → Type 0 =
    λ cmp. IsStrictlySortedBy cmp (keys_of c.args.places.now.entries) in
    subst P same_certified_cmp c.len.ensures.ordered
