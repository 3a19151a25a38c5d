use Rattle.std.proofs.Common.{◌&&◌, ◌||◌, List, sym, ap, ◌∙◌}
use Rattle.std.proofs.lemmas.List.{nil_from_length}
use Rattle.std.proofs.lemmas.List.Folds.{list_any-append}
use Rattle.wot_types.specs.declared.fpr.Fpr.{Fpr}
use Rattle.wot_types.specs.declared.number.SigNumber.{SigNumber}
use Rattle.wot_verdict.specs.Verdicts.{is_number}
use Rattle.wot_component.specs.Certificate.{Signature, Component}
use Rattle.wot_component.specs.Counts.{sigs_on}
use Rattle.wot_keyring_spec.specs.Keyring.{is_fpr}
use Rattle.wot_keyring_spec.specs.Verdict.{is_among}
use Rattle.wot_index.proofs.Choices.{and_each}
use Rattle.wot_index.proofs.Indexed.{notes_all, notes_on, still_logged}
use Rattle.wot_index.proofs.noting.note_parts.Goals as goal

pub parts-preserved : goal.parts-preserved
parts-preserved c = record {
  noted =
      notes_on c.args.index.now c.parts.index c.note_sigs.new.index
      (λ (n : SigNumber) (q : Fpr). is_among n c.sigs.result.now && is_fpr c.args.fpr q)
      (λ (n : SigNumber) (q : Fpr). is_among n (sigs_on c.parts.left.now) && is_fpr c.args.fpr q)
      (λ (n : SigNumber) (q : Fpr). is_among n (sigs_on c.in-Some.rest.now) && is_fpr c.args.fpr q)
      (λ (n : SigNumber) (q : Fpr). is_among n (sigs_on c.args.parts.now) && is_fpr c.args.fpr q)
      c.parts.invariant.noted
      (λ n q.
      ap (λ (left : List Component). is_among n (sigs_on left) && is_fpr c.args.fpr q) c.in-Some.ensures.cases.0
      ∙ ap (λ b. b && is_fpr c.args.fpr q) (list_any-append (λ (s : Signature). is_number n s.number)
      c.in-Some.part.now.sigs (sigs_on c.in-Some.rest.now))
      ∙ and_each (is_among n c.in-Some.part.now.sigs) (is_among n (sigs_on c.in-Some.rest.now)) (is_fpr c.args.fpr q)
      ∙ ap (λ (sigs : List Signature). (is_among n sigs && is_fpr c.args.fpr q) || (is_among n
      (sigs_on c.in-Some.rest.now) && is_fpr c.args.fpr q)) (sym c.sigs.ensures.sigs))
      c.in_ok-note_sigs.ensures.noted;
  log = still_logged c.args.index.now c.parts.index c.note_sigs.new.index c.args.log.now.items c.parts.log.items
      c.note_sigs.new.log.items c.parts.invariant.log c.note_sigs.ensures.log;
  verdicts = c.note_sigs.ensures.verdicts ∙ c.parts.invariant.verdicts;
}

pub returns-clause-noted : goal.returns-clause-noted
returns-clause-noted c =
    notes_all c.args.index.now c.parts.index
    (λ (n : SigNumber) (q : Fpr). is_among n (sigs_on c.parts.left.now) && is_fpr c.args.fpr q)
    (λ (n : SigNumber) (q : Fpr). is_among n (sigs_on c.args.parts.now) && is_fpr c.args.fpr q)
    c.parts.invariant.noted
    (λ n q. ap (λ (left : List Component). is_among n (sigs_on left) && is_fpr c.args.fpr q)
    (nil_from_length _ c.in_default.ensures.cases))
