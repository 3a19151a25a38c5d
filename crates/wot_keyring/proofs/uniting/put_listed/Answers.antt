use Rattle.std.proofs.Common.{◌≤◌, ◌+◌, List, sym, ap, ◌∙◌, subst}
use Rattle.wot_policy.specs.Kept.{rows_of}
use Rattle.wot_component.specs.Certificate.{Certificate}
use Rattle.wot_merge.specs.Staging.{kept_all, clash_in, sound_in, IsClashTold}
use Rattle.wot_keyring.proofs.Adopted.{clash_alone, names_itself, new_named}
use Rattle.wot_keyring.proofs.uniting.put_listed.Goals as goal

-- ---- a new certificate that came alone

pub returns-in-Ok-clause-put : goal.returns-in-Ok-clause-put
returns-in-Ok-clause-put g c =
    c.in-Ok.ensures.put ∙ ap (kept_all (rows_of c.args.policy.now) c.args.terms.now.stamp c.args.certs.now.entries)
    (sym c.in-Some.ensures.only)

pub returns-in-Ok-clause-merged : goal.returns-in-Ok-clause-merged
returns-in-Ok-clause-merged g c =
    new_named (rows_of c.args.policy.now) c.args.terms.now.stamp c.args.certs.now.entries c.put_new.new.certs.entries
    c.in-Some.cert c.fpr-fpr.result c.args.list.items c.fpr-fpr.ensures.fpr c.in-Some.ensures.absent
    c.in-Ok.ensures.put c.in-Some.ensures.only

pub returns-in-Ok-clause-clash : goal.returns-in-Ok-clause-clash
returns-in-Ok-clause-clash g c =
    sym (clash_alone (rows_of c.args.policy.now) c.args.terms.now.stamp c.args.certs.now.entries c.in-Some.cert
    c.args.list.items c.in-Some.ensures.only) ∙ c.in-Ok.ensures.clash

pub returns-in-Ok-clause-asked : goal.returns-in-Ok-clause-asked
returns-in-Ok-clause-asked g c =
    let a = c.in-Ok.ensures.asked in
    let es = c.args.certs.now.entries in (
      a.0,
      a.1,
      a.2 ∙ ap (λ (cs : List Certificate). sound_in
          (kept_all (rows_of c.args.policy.now) c.args.terms.now.stamp es cs)) (sym c.in-Some.ensures.only),
    )

pub returns-in-Some-clause-clash : goal.returns-in-Some-clause-clash
returns-in-Some-clause-clash g c =
    subst (λ b. IsClashTold c.in-Err.fault b) (clash_alone (rows_of c.args.policy.now) c.args.terms.now.stamp
    c.args.certs.now.entries c.in-Some.cert c.args.list.items c.in-Some.ensures.only) c.in-Err.ensures.clash

pub returns-in-Some-clause-asked : goal.returns-in-Some-clause-asked
returns-in-Some-clause-asked g c =
    let a = c.in-Err.ensures.asked in
    let es = c.args.certs.now.entries in (
      a.0,
      a.1,
      subst (λ (cs : List Certificate). a.0 + sound_in es ≤ sound_in
          (kept_all (rows_of c.args.policy.now) c.args.terms.now.stamp es cs)) (sym c.in-Some.ensures.only) a.2,
    )

-- ---- a list

pub returns-in-Ok-put_all-clause-put : goal.returns-in-Ok-put_all-clause-put
returns-in-Ok-put_all-clause-put g c =
    c.in-Ok-put_all.ensures.put
    ∙ ap (kept_all (rows_of c.args.policy.now) c.args.terms.now.stamp c.args.certs.now.entries)
    (c.as_slice.ensures.value ∙ c.in-None.ensures.same)

pub returns-in-Ok-put_all-clause-merged : goal.returns-in-Ok-put_all-clause-merged
returns-in-Ok-put_all-clause-merged g c =
    names_itself c.take_new.new.list.items c.args.list.items c.in-None.ensures.same

pub returns-in-Ok-put_all-clause-clash : goal.returns-in-Ok-put_all-clause-clash
returns-in-Ok-put_all-clause-clash g c =
    ap (clash_in (rows_of c.args.policy.now) c.args.terms.now.stamp c.args.certs.now.entries)
    (sym (c.as_slice.ensures.value ∙ c.in-None.ensures.same)) ∙ c.in-Ok-put_all.ensures.clash

pub returns-in-Ok-put_all-clause-asked : goal.returns-in-Ok-put_all-clause-asked
returns-in-Ok-put_all-clause-asked g c =
    let a = c.in-Ok-put_all.ensures.asked in
    let es = c.args.certs.now.entries in (
      a.0,
      a.1,
      a.2 ∙ ap (λ (cs : List Certificate). sound_in
          (kept_all (rows_of c.args.policy.now) c.args.terms.now.stamp es cs))
          (c.as_slice.ensures.value ∙ c.in-None.ensures.same),
    )

pub returns-clause-clash : goal.returns-clause-clash
returns-clause-clash g c =
    subst (λ (cs : List Certificate). IsClashTold c.in-Err-put_all.fault
    (clash_in (rows_of c.args.policy.now) c.args.terms.now.stamp c.args.certs.now.entries cs))
    (c.as_slice.ensures.value ∙ c.in-None.ensures.same) c.in-Err-put_all.ensures.clash

pub returns-clause-asked : goal.returns-clause-asked
returns-clause-asked g c =
    let a = c.in-Err-put_all.ensures.asked in
    let es = c.args.certs.now.entries in (
      a.0,
      a.1,
      subst (λ (cs : List Certificate). a.0 + sound_in es ≤ sound_in
          (kept_all (rows_of c.args.policy.now) c.args.terms.now.stamp es cs))
          (c.as_slice.ensures.value ∙ c.in-None.ensures.same) a.2,
    )
