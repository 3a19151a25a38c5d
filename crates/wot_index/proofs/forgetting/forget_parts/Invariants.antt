use Rattle.std.proofs.Common.{◌≡◌, length}
use Rattle.wot_types.specs.declared.number.SigNumber.{SigNumber}
use Rattle.wot_component.specs.Counts.{sigs_on}
use Rattle.wot_index.specs.Index.{SaysSame, holder_of, unless}
use Rattle.wot_keyring_spec.specs.Verdict.{is_among}
use Rattle.wot_index.proofs.forgetting.forget_parts.Given as goal

abbrev pub invariant-parts : goal.invariant-parts
invariant-parts l = record {
  forgotten : (n : SigNumber) → unless (is_among n (sigs_on l.left)) (holder_of l.verdicts n)
      ≡ unless (is_among n (sigs_on l.parts)) (holder_of l.initial.verdicts n);
  verdicts : SaysSame l.initial.verdicts l.verdicts;
}

abbrev pub decreases-parts : goal.decreases-parts
decreases-parts l = length l.left
