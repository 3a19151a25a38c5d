use Rattle.std.proofs.Common.{false, refl}
use Rattle.wot_component.specs.Judged.{is_admitted_by}
use Rattle.wot_cert.proofs.MergedMarks.{sigs_judged, parts_judged}
use Rattle.wot_cert.proofs.UnionLaws.{united-marked, marked-again, marked-commute}
use Rattle.wot_cert.proofs.laws.judging.Goals as goal

pub returns : goal.returns
returns c = record {
  unmarked = λ rows. marked-again (is_admitted_by rows) (λ _. false) (λ s. refl);
  united = λ rows. united-marked (is_admitted_by rows);
  unmarked_union = united-marked (λ _. false);
  order = λ rows. marked-commute (is_admitted_by rows) (λ s. refl);
  judged = λ rows cert. record {
    direct = sigs_judged rows cert.direct;
    user_ids = parts_judged rows cert.user_ids;
    attributes = parts_judged rows cert.attributes;
    subkeys = parts_judged rows cert.subkeys;
  };
  forgotten = λ rows. marked-again (λ _. false) (is_admitted_by rows) (λ s. refl);
}
