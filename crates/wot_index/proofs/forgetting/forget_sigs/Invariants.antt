use Rattle.std.proofs.Common.{◌≡◌, length}
use Rattle.wot_types.specs.declared.number.SigNumber.{SigNumber}
use Rattle.wot_index.specs.Index.{SaysSame, holder_of, unless}
use Rattle.wot_keyring_spec.specs.Verdict.{is_among}
use Rattle.wot_index.proofs.forgetting.forget_sigs.Given as goal

abbrev pub invariant-sigs : goal.invariant-sigs
invariant-sigs l = record {
  forgotten : (n : SigNumber) → unless (is_among n l.left) (holder_of l.verdicts n)
      ≡ unless (is_among n l.sigs) (holder_of l.initial.verdicts n);
  verdicts : SaysSame l.initial.verdicts l.verdicts;
}

abbrev pub decreases-sigs : goal.decreases-sigs
decreases-sigs l = length l.left
