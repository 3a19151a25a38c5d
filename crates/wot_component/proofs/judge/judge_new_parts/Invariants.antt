use Rattle.std.proofs.Common.{◌≡◌, ◌++◌, ◌+◌, ℕ, take, drop, length}
use Rattle.wot_policy.specs.Kept.{IsFaithful, rows_of, asked_more}
use Rattle.wot_component.specs.New.{judged_parts, sound_new_on}
use Rattle.wot_component.proofs.judge.judge_new_parts.Given as goal

abbrev pub invariant-loop-at : goal.invariant-loop-at
invariant-loop-at g l = record {
  as_long : length l.parts.items ≡ length l.initial.parts.items;
  marked : take l.at l.parts.items ++ judged_parts (rows_of l.initial.policy) (drop l.at l.parts.items)
      l.left ≡ judged_parts (rows_of l.initial.policy) l.initial.parts.items l.old;
  asked : (k : ℕ) × (l.policy ≡ asked_more k l.initial.policy)
      × (k + sound_new_on (drop l.at l.parts.items) l.left ≡ sound_new_on l.initial.parts.items l.old);
  faithful : IsFaithful g.F.Fn l.policy;
}
