use Rattle.std.proofs.Common.{◌≡◌, ◌++◌, ◌+◌, ℕ, take, drop, length}
use Rattle.wot_policy.specs.Kept.{IsFaithful, rows_of, asked_more}
use Rattle.wot_component.specs.New.{judged_sigs, sound_new}
use Rattle.wot_component.proofs.judge.judge_new.Given as goal

abbrev pub invariant-loop-at : goal.invariant-loop-at
invariant-loop-at g l = record {
  as_long : length l.sigs.items ≡ length l.initial.sigs.items;
  marked : take l.at l.sigs.items ++ judged_sigs (rows_of l.initial.policy) (drop l.at l.sigs.items)
      l.left ≡ judged_sigs (rows_of l.initial.policy) l.initial.sigs.items l.old;
  asked : (k : ℕ) × (l.policy ≡ asked_more k l.initial.policy)
      × (k + sound_new (drop l.at l.sigs.items) l.left ≡ sound_new l.initial.sigs.items l.old);
  faithful : IsFaithful g.F.Fn l.policy;
}
