use Rattle.wot_policy.specs.Kept.{IsFaithful, rows_of}
use Rattle.wot_keyring_spec.specs.Kept.{IsJudgedBy}
use Rattle.wot_test_engine.proofs.keyring.first_other.Given as goal

abbrev pub invariant-loop-case : goal.invariant-loop-case
invariant-loop-case g l = record {
  judged : IsJudgedBy (rows_of l.policy) l.keyring;
  faithful : IsFaithful g.F.Fn l.policy;
}
