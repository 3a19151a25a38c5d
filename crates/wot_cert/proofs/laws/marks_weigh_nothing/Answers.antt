use Rattle.std.proofs.Common.{false}
use Rattle.wot_component.specs.Judged.{is_admitted_by}
use Rattle.wot_cert.proofs.Unchanged.{items-marked, signatures-marked, sound-marked, text-marked}
use Rattle.wot_cert.proofs.laws.marks_weigh_nothing.Goals as goal

pub returns : goal.returns
returns c = record {
  items = items-marked (λ _. false);
  judged_items = λ rows. items-marked (is_admitted_by rows);
  signatures = signatures-marked (λ _. false);
  judged_signatures = λ rows. signatures-marked (is_admitted_by rows);
  sound = sound-marked (λ _. false);
  judged_sound = λ rows. sound-marked (is_admitted_by rows);
  text = text-marked (λ _. false);
  judged_text = λ rows. text-marked (is_admitted_by rows);
}
