use Rattle.std.proofs.Common.{◌≡◌, ◌++◌, map, length}
use Rattle.wot_component.specs.Certificate.{part_with}
use Rattle.wot_component.specs.Copied.{copied}
use Rattle.wot_component.proofs.part.push_copies.Given as goal

abbrev pub invariant-rest : goal.invariant-rest
invariant-rest l =
    l.out.items ++ map (part_with (copied l.marks)) l.rest ≡ l.fn.out.items ++ map (part_with (copied l.marks)) l.parts

abbrev pub decreases-rest : goal.decreases-rest
decreases-rest l = length l.rest
