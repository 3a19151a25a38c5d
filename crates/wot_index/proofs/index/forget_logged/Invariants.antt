use Rattle.std.proofs.Common.{◌≡◌, vec_len}
use Rattle.wot_types.specs.declared.number.SigNumber.{SigNumber}
use Rattle.wot_index.specs.Index.{SaysSame, holder_without}
use Rattle.wot_index.proofs.index.forget_logged.Given as goal

abbrev pub invariant-log : goal.invariant-log
invariant-log l = record {
  forgotten : (n : SigNumber) → holder_without l.log.items l.verdicts n
      ≡ holder_without l.initial.log.items l.initial.verdicts n;
  verdicts : SaysSame l.initial.verdicts l.verdicts;
}

abbrev pub decreases-log : goal.decreases-log
decreases-log l = vec_len l.log
