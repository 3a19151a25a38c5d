use Rattle.std.proofs.Common.{◌&&◌, length}
use Rattle.wot_types.specs.declared.fpr.Fpr.{Fpr}
use Rattle.wot_types.specs.declared.number.SigNumber.{SigNumber}
use Rattle.wot_component.specs.Counts.{sigs_on}
use Rattle.wot_keyring_spec.specs.Keyring.{is_fpr}
use Rattle.wot_index.specs.Index.{NotesOn, SaysSame, StillLogged}
use Rattle.wot_keyring_spec.specs.Verdict.{is_among}
use Rattle.wot_index.proofs.noting.note_parts.Given as goal

abbrev pub invariant-parts : goal.invariant-parts
invariant-parts l = record {
  noted : NotesOn l.initial.index l.index (λ (n : SigNumber) (q : Fpr). is_among n (sigs_on l.left) && is_fpr l.fpr q)
      (λ (n : SigNumber) (q : Fpr). is_among n (sigs_on l.parts) && is_fpr l.fpr q);
  log : StillLogged l.initial.index l.initial.log.items l.index l.log.items;
  verdicts : SaysSame l.initial.index.verdicts l.index.verdicts;
}

abbrev pub decreases-parts : goal.decreases-parts
decreases-parts l = length l.left
