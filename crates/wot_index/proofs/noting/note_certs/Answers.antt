use Rattle.std.proofs.Common.{List, ap, ◌∙◌}
use Rattle.std.proofs.lemmas.List.{nil_from_length}
use Rattle.wot_component.specs.Certificate.{Certificate}
use Rattle.wot_index.specs.Index.{stands_among, stands_on}
use Rattle.wot_index.proofs.Indexed.{notes_all, notes_on, still_logged}
use Rattle.wot_index.proofs.noting.note_certs.Goals as goal

pub certs-preserved : goal.certs-preserved
certs-preserved c = record {
  noted =
      notes_on c.args.index.now c.certs.index c.note_cert.new.index (stands_on c.in-Some.cert.now)
      (stands_among c.certs.left.now) (stands_among c.in-Some.rest.now)
      (stands_among c.args.certs.now) c.certs.invariant.noted
      (λ n q. ap (λ (left : List Certificate). stands_among left n q) c.in-Some.ensures.cases.0)
      c.in_ok-note_cert.ensures.noted;
  log = still_logged c.args.index.now c.certs.index c.note_cert.new.index c.args.log.now.items c.certs.log.items
      c.note_cert.new.log.items c.certs.invariant.log c.note_cert.ensures.log;
  verdicts = c.note_cert.ensures.verdicts ∙ c.certs.invariant.verdicts;
}

pub returns-clause-noted : goal.returns-clause-noted
returns-clause-noted c =
    notes_all c.args.index.now c.certs.index (stands_among c.certs.left.now) (stands_among c.args.certs.now)
    c.certs.invariant.noted
    (λ n q. ap (λ (left : List Certificate). stands_among left n q) (nil_from_length _ c.in_default.ensures.cases))
