use Rattle.std.proofs.Common.{◌≡◌, ◌+◌, ◌*◌, ◌<◌, ◌^◌, length}
use Rattle.wot_policy.specs.Kept.{IsFaithful, rows_of}
use Rattle.wot_keyring_spec.specs.Kept.{IsJudgedBy}
use Rattle.wot_machine.specs.Machine.{kept}
use Rattle.wot_plain.proofs.DirectoryGives.{over}
use Rattle.wot_engine.proofs.Plays.{Plays}
use Rattle.wot_engine.proofs.generated.add_lines.Given as goal

abbrev pub invariant-lines : goal.invariant-lines
invariant-lines g l = record {
  plays : Plays (rows_of l.fn.policy) l.fn.text l.rest (over (kept l.machine) l.shelf.world) l.tally;
  changes : l.machine.engine.keyring.changes + length l.rest < 2 ^ 30;
  revisions : l.machine.engine.revisions.count + length l.rest < 2 ^ 30;
  amounts : l.tally.amounts + 4294967296 * length l.rest < 2 ^ 62;
  judged : IsJudgedBy (rows_of l.fn.policy) l.machine.engine.keyring;
  rows : rows_of l.policy ≡ rows_of l.fn.policy;
  faithful : IsFaithful g.F.Fn l.policy;
}

abbrev pub decreases-lines : goal.decreases-lines
decreases-lines g l = length l.rest
