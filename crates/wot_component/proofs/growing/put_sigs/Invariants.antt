use Rattle.std.proofs.Common.{◌≡◌, ◌+◌, ℕ, map, length}
use Rattle.std.specs.List.{AllByRecursion}
use Rattle.wot_policy.specs.Kept.{IsFaithful, rows_of, asked_more}
use Rattle.wot_component.specs.Certificate.{sig_cmp, unite_sigs}
use Rattle.wot_component.specs.Counts.{sum_of}
use Rattle.wot_component.specs.Fitting.{SigFits}
use Rattle.wot_component.specs.Growing.{without_all}
use Rattle.wot_component.specs.Judged.{if_sound, judged_sig}
use Rattle.wot_component.specs.Ranked.{IsRising}
use Rattle.wot_component.specs.Totals.{FollowSigs}
use Rattle.wot_component.proofs.growing.put_sigs.Given as goal

abbrev pub invariant-left : goal.invariant-left
invariant-left g l = record {
  rises : IsRising sig_cmp l.sigs.items;
  fit : AllByRecursion SigFits l.left;
  union : unite_sigs l.sigs.items (map (judged_sig (rows_of l.initial.policy)) l.left) ≡ unite_sigs l.initial.sigs.items
      (map (judged_sig (rows_of l.initial.policy)) l.more);
  back : without_all l.log.items l.sigs.items ≡ without_all l.initial.log.items l.initial.sigs.items;
  follow : FollowSigs l.initial.totals l.totals l.initial.sigs.items l.sigs.items;
  asked : (k : ℕ) × (l.policy ≡ asked_more k l.initial.policy)
      × (k + sum_of if_sound l.initial.sigs.items ≡ sum_of if_sound l.sigs.items);
  faithful : IsFaithful g.F.Fn l.policy;
}

abbrev pub decreases-left : goal.decreases-left
decreases-left g l = length l.left
