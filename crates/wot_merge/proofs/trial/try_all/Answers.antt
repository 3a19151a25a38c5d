use Rattle.std.proofs.Common.{List, sym, ◌∙◌, subst, refl}
use Rattle.wot_policy.specs.Kept.{rows_of}
use Rattle.wot_merge.specs.declared.undo.Was.{Was as TheWas}
use Rattle.wot_merge.specs.Staging.{IsLog, IsTally, IsClashTold}
use Rattle.wot_merge.proofs.Clashes.{clashes_told}
use Rattle.wot_merge.proofs.TrialMerge.{tried_full}
use Rattle.wot_merge.proofs.trial.try_all.Goals as goal

pub returns-in-Ok-clause-full : goal.returns-in-Ok-clause-full
returns-in-Ok-clause-full c = λ rows.
    let other = rows_of c.new-policy.result in
    c.first_full_of.ensures
    ∙ tried_full rows other c.judging.ensures.unmarked c.judging.ensures.forgotten c.judging.ensures.united
    (c.marks_weigh_nothing.ensures.judged_text rows) (c.marks_weigh_nothing.ensures.judged_signatures rows)
    c.args.limits.now c.args.terms.now.stamp c.args.certs.now.entries c.args.list.now c.put_all-tried.new.certs.entries
    c.put_all-tried.new.progress.tally.total c.len-count.result
    c.in-Ok.ensures.put (subst (λ limit. IsTally limit c.put_all-tried.new.certs.entries
    c.put_all-tried.new.progress.tally.total) c.requires.limit c.in-Ok.ensures.tallied) c.len-count.ensures.len

pub returns-in-Ok-clause-same : goal.returns-in-Ok-clause-same
returns-in-Ok-clause-same c =
    let es = c.args.certs.now.entries in
    c.take_back.ensures.back es (c.put_all-tried.ensures.log es (subst (λ (ws : List TheWas). IsLog es ws es)
    (sym c.new-log.ensures.items) refl))

pub returns-in-Ok-clause-clash : goal.returns-in-Ok-clause-clash
returns-in-Ok-clause-clash c =
    clashes_told (rows_of c.new-policy.result) c.args.terms.now.stamp c.args.certs.now.entries c.args.list.now
    c.requires.named c.requires.sorted ∙ c.in-Ok.ensures.clash

pub returns-in-Err-clause-same : goal.returns-in-Err-clause-same
returns-in-Err-clause-same c =
    let es = c.args.certs.now.entries in
    c.take_back.ensures.back es (c.put_all-tried.ensures.log es (subst (λ (ws : List TheWas). IsLog es ws es)
    (sym c.new-log.ensures.items) refl))

pub returns-in-Err-clause-clash : goal.returns-in-Err-clause-clash
returns-in-Err-clause-clash c =
    subst (IsClashTold c.in-Err.fault)
    (sym (clashes_told (rows_of c.new-policy.result) c.args.terms.now.stamp c.args.certs.now.entries c.args.list.now
    c.requires.named c.requires.sorted)) c.in-Err.ensures.clash

pub take_back-requires : goal.take_back-requires
take_back-requires c =
    let es = c.args.certs.now.entries in
    record {
      leads = (
        es,
        c.put_all-tried.ensures.log es (subst (λ (ws : List TheWas). IsLog es ws es)
            (sym c.new-log.ensures.items) refl),
      );
    }
