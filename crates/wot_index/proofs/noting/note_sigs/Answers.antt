use Rattle.std.proofs.Common.{◌&&◌, ◌||◌, List, sym, ap, ◌∙◌}
use Rattle.std.proofs.lemmas.List.{nil_from_length}
use Rattle.wot_types.specs.declared.fpr.Fpr.{Fpr}
use Rattle.wot_types.specs.declared.number.SigNumber.{SigNumber}
use Rattle.wot_verdict.specs.Verdicts.{is_number}
use Rattle.wot_component.specs.Certificate.{Signature}
use Rattle.wot_keyring_spec.specs.Keyring.{is_fpr}
use Rattle.wot_keyring_spec.specs.Verdict.{is_among}
use Rattle.wot_index.proofs.Choices.{and_each}
use Rattle.wot_index.proofs.Indexed.{notes_all, notes_on, still_logged}
use Rattle.wot_index.proofs.noting.note_sigs.Goals as goal

pub sigs-preserved : goal.sigs-preserved
sigs-preserved c = record {
  noted =
      notes_on c.args.index.now c.sigs.index c.note.new.index
      (λ (n : SigNumber) (q : Fpr). is_number n c.number.result && is_fpr c.args.fpr q)
      (λ (n : SigNumber) (q : Fpr). is_among n c.sigs.left.now && is_fpr c.args.fpr q)
      (λ (n : SigNumber) (q : Fpr). is_among n c.in-Some.rest.now && is_fpr c.args.fpr q)
      (λ (n : SigNumber) (q : Fpr). is_among n c.args.sigs.now && is_fpr c.args.fpr q) c.sigs.invariant.noted
      (λ n q.
      ap (λ (left : List Signature). is_among n left && is_fpr c.args.fpr q) c.in-Some.ensures.cases.0
      ∙ and_each (is_number n c.in-Some.sig.now.number) (is_among n c.in-Some.rest.now) (is_fpr c.args.fpr q)
      ∙ ap (λ (number : SigNumber). (is_number n number && is_fpr c.args.fpr q) || (is_among n
      c.in-Some.rest.now && is_fpr c.args.fpr q)) (sym c.number.ensures.number))
      c.in_ok-note.ensures.noted;
  log = still_logged c.args.index.now c.sigs.index c.note.new.index c.args.log.now.items c.sigs.log.items
      c.note.new.log.items c.sigs.invariant.log c.note.ensures.log;
  verdicts = c.note.ensures.verdicts ∙ c.sigs.invariant.verdicts;
}

pub returns-clause-noted : goal.returns-clause-noted
returns-clause-noted c =
    notes_all c.args.index.now c.sigs.index
    (λ (n : SigNumber) (q : Fpr). is_among n c.sigs.left.now && is_fpr c.args.fpr q)
    (λ (n : SigNumber) (q : Fpr). is_among n c.args.sigs.now && is_fpr c.args.fpr q) c.sigs.invariant.noted
    (λ n q. ap (λ (left : List Signature). is_among n left && is_fpr c.args.fpr q) (nil_from_length _ c.in_default.ensures.cases))
