use Rattle.std.proofs.Common.{◌≡◌, ◌≤◌, ◌-◌, ◌++◌, List, length, drop}
use Rattle.wot_pattern.specs.declared.item.Item.{Item}
use Rattle.wot_pattern.proofs.Lists.{ItemsSoFar}
use Rattle.wot_pattern.proofs.range.read_items.Given as goal

abbrev pub invariant-items : goal.invariant-items
invariant-items l =
    (l.at ≤ length l.text) × (l.start ≤ l.at)
    × ((xs : List Item) × (l.items.items ≡ l.fn.items.items ++ xs)
    × ItemsSoFar (drop l.start l.text) (drop l.at l.text) xs)

abbrev pub decreases-items : goal.decreases-items
decreases-items l = length l.text - l.at
