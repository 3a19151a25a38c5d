use Rattle.std.specs.Prelude.{◌≤◌}
use Rattle.wot_policy.specs.Kept.{IsFaithful, rows_of}
use Rattle.wot_keyring_spec.specs.Kept.{IsJudgedBy}
use Rattle.wot_test_engine.proofs.made.play.Given as goal

abbrev pub invariant-loop-number : goal.invariant-loop-number
invariant-loop-number g l = record {
  few : l.machine.engine.keyring.changes ≤ l.number;
  revisions : l.machine.engine.revisions.count ≤ l.number;
  judged : IsJudgedBy (rows_of l.policy) l.machine.engine.keyring;
  faithful : IsFaithful g.F.Fn l.policy;
}
