use Rattle.std.proofs.Common.{◌≡◌, ◌++◌, map}
use Rattle.std.specs.List.{AllByRecursion}
use Rattle.wot_cert.specs.Drafting.{IsShortGroup, body_cmp, part_drafted, groups_in}
use Rattle.wot_component.specs.Ranked.{IsRising}
use Rattle.wot_cert.proofs.complete.put_fresh_parts.Given as goal

abbrev pub invariant-loop-body : goal.invariant-loop-body
invariant-loop-body l = record {
  made : l.parts.items ++ map (part_drafted l.key l.kind) (groups_in l.body-iterator) ≡ map (part_drafted l.key l.kind)
      (groups_in l.groups.entries);
  short : AllByRecursion IsShortGroup (groups_in l.body-iterator);
  rises : AllByRecursion (λ g. IsRising body_cmp g.1) (groups_in l.body-iterator);
}
