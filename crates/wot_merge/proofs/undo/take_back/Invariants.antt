use Rattle.std.proofs.Common.{vec_len}
use Rattle.wot_keyring_spec.specs.Keyring.{Entries}
use Rattle.wot_merge.specs.Staging.{IsLog, StillLeadsBack}
use Rattle.wot_merge.proofs.undo.take_back.Given as goal

abbrev pub invariant-log : goal.invariant-log
invariant-log l = record {
  some : (first : Entries) × IsLog first l.log.items l.certs.entries;
  still : StillLeadsBack l.initial.log.items l.initial.certs.entries l.log.items l.certs.entries;
}

abbrev pub decreases-log : goal.decreases-log
decreases-log l = vec_len l.log
