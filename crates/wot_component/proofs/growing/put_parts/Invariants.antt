use Rattle.std.proofs.Common.{◌≡◌, ◌+◌, ℕ, map, length}
use Rattle.std.specs.List.{AllByRecursion}
use Rattle.wot_policy.specs.Kept.{IsFaithful, rows_of, asked_more}
use Rattle.wot_component.specs.Certificate.{part_cmp, part_with, unite_parts}
use Rattle.wot_component.specs.Counts.{sum_of}
use Rattle.wot_component.specs.Fitting.{PartFits}
use Rattle.wot_component.specs.Growing.{parts_back, sound_weight}
use Rattle.wot_component.specs.Judged.{judged_sig}
use Rattle.wot_component.specs.Ranked.{IsRising}
use Rattle.wot_component.specs.Totals.{FollowParts}
use Rattle.wot_component.proofs.growing.put_parts.Given as goal

abbrev pub invariant-left : goal.invariant-left
invariant-left g l = record {
  rises : IsRising part_cmp l.parts.items;
  fit : AllByRecursion PartFits l.left;
  union : unite_parts l.parts.items (map (part_with (judged_sig (rows_of l.initial.policy))) l.left) ≡ unite_parts
      l.initial.parts.items (map (part_with (judged_sig (rows_of l.initial.policy))) l.more);
  back : parts_back l.log.items l.parts.items ≡ parts_back l.initial.log.items l.initial.parts.items;
  follow : FollowParts l.initial.totals l.totals l.initial.parts.items l.parts.items;
  asked : (k : ℕ) × (l.policy ≡ asked_more k l.initial.policy)
      × (k + sum_of sound_weight l.initial.parts.items ≡ sum_of sound_weight l.parts.items);
  faithful : IsFaithful g.F.Fn l.policy;
}

abbrev pub decreases-left : goal.decreases-left
decreases-left g l = length l.left
