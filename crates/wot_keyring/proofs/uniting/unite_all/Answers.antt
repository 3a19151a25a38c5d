use Rattle.std.proofs.Common.{List, sym, subst, refl}
use Rattle.wot_component.specs.Certificate.{Certificate}
use Rattle.wot_merge.specs.declared.undo.Was.{Was as TheWas}
use Rattle.wot_merge.specs.Staging.{IsLog}
use Rattle.wot_keyring.specs.Uniting.{NamesSame}
use Rattle.wot_keyring.proofs.Adopted.{logs_same, notes_same}
use Rattle.wot_keyring.proofs.uniting.unite_all.Goals as goal

pub returns-in-Ok-note_all-clause-noted : goal.returns-in-Ok-note_all-clause-noted
returns-in-Ok-note_all-clause-noted g c =
    let same : NamesSame c.certs_in-named.result.now c.args.list.items =
    subst (λ (cs : List Certificate). NamesSame cs c.args.list.items) (sym c.certs_in-named.ensures)
    c.in-Ok.ensures.merged in (
      c.note_all.ensures.verdicts,
      notes_same c.certs_in-named.result.now c.args.list.items same c.args.index.now c.note_all.new.index
          c.in-Ok-note_all.ensures.noted,
    )

pub returns-in-Ok-note_all-clause-logged : goal.returns-in-Ok-note_all-clause-logged
returns-in-Ok-note_all-clause-logged g c =
    let same : NamesSame c.certs_in-named.result.now c.args.list.items =
    subst (λ (cs : List Certificate). NamesSame cs c.args.list.items) (sym c.certs_in-named.ensures)
    c.in-Ok.ensures.merged in
    logs_same c.certs_in-named.result.now c.args.list.items same c.put_listed-united.new.progress.tally.fresh
    c.args.terms.now.stamp c.args.log.now c.log_union.new.log c.log_union.ensures.logged

pub returns-in-Err-note_all-clause-same : goal.returns-in-Err-note_all-clause-same
returns-in-Err-note_all-clause-same g c =
    let es = c.args.certs.now.entries in
    c.take_back.ensures.back es (c.put_listed-united.ensures.log es (subst (λ (ws : List TheWas). IsLog es ws es)
    (sym c.new-steps.ensures.items) refl))

pub returns-in-Err-clause-same : goal.returns-in-Err-clause-same
returns-in-Err-clause-same g c =
    let es = c.args.certs.now.entries in
    c.take_back-in-Err.ensures.back es
    (c.put_listed-united.ensures.log es (subst (λ (ws : List TheWas). IsLog es ws es)
    (sym c.new-steps.ensures.items) refl))

pub take_back-requires : goal.take_back-requires
take_back-requires g c =
    let es = c.args.certs.now.entries in
    record {
      leads = (
        es,
        c.put_listed-united.ensures.log es (subst (λ (ws : List TheWas). IsLog es ws es)
            (sym c.new-steps.ensures.items) refl),
      );
    }

pub take_back-requires-in-Err : goal.take_back-requires-in-Err
take_back-requires-in-Err g c =
    let es = c.args.certs.now.entries in
    record {
      leads = (
        es,
        c.put_listed-united.ensures.log es (subst (λ (ws : List TheWas). IsLog es ws es)
            (sym c.new-steps.ensures.items) refl),
      );
    }
