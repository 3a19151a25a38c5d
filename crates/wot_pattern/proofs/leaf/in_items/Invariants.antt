use Rattle.std.proofs.Common.{◌≡◌, drop}
use Rattle.wot_pattern.specs.MeaningTest.{in_items}
use Rattle.wot_pattern.proofs.leaf.in_items.Given as goal

abbrev pub invariant-loop-item : goal.invariant-loop-item
invariant-loop-item l = in_items l.character (drop l.item-index l.items) ≡ in_items l.character l.items
