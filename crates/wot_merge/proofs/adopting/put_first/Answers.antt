use Rattle.std.proofs.Common.{Option, ap, sym, subst}
use Rattle.wot_policy.specs.Kept.{rows_of}
use Rattle.wot_keyring_spec.specs.declared.kept.Kept.{Kept}
use Rattle.wot_merge.specs.Staging.{clash_at, found_for, IsStaged}
use Rattle.wot_merge.proofs.ImportSteps.{asked_first, none_asked}
use Rattle.wot_merge.proofs.InPlace.{no_more}
use Rattle.wot_merge.proofs.adopting.put_first.Goals as goal

pub returns-in-Err-clause-asked : goal.returns-in-Err-clause-asked
returns-in-Err-clause-asked g c =
    let a = c.in-Err.ensures.asked in (
      a.0,
      a.1,
      none_asked c.united_grows.ensures.sound (rows_of c.args.policy.now)
          (found_for c.args.certs.now.entries c.args.cert) c.args.cert a.0 a.2,
    )

pub returns-in-Ok-put_staged-clause-merged : goal.returns-in-Ok-put_staged-clause-merged
returns-in-Ok-put_staged-clause-merged g c =
    let rows = rows_of c.args.policy.now in
    let terms = c.args.terms.now in
    c.in-Ok-put_staged.ensures.put rows terms c.args.cert c.fpr-fpr.ensures.fpr
    (subst (λ (found : Option Kept). IsStaged rows terms.stamp terms.limit found c.args.cert c.in-Ok.staged)
    (sym c.requires.absent) c.in-Ok.ensures.step)

pub returns-in-Ok-put_staged-clause-clash : goal.returns-in-Ok-put_staged-clause-clash
returns-in-Ok-put_staged-clause-clash g c = ap (λ (found : Option Kept). clash_at found c.args.cert) c.requires.absent

pub returns-in-Ok-put_staged-clause-asked : goal.returns-in-Ok-put_staged-clause-asked
returns-in-Ok-put_staged-clause-asked g c =
    let rows = rows_of c.args.policy.now in
    let a = c.in-Ok.ensures.asked in (
      a.0,
      a.1,
      asked_first rows (found_for c.args.certs.now.entries c.args.cert) c.args.cert a.0 c.requires.absent
          (c.marks_weigh_nothing.ensures.judged_sound rows c.args.cert) a.2,
    )

pub returns-in-Err-put_staged-clause-asked : goal.returns-in-Err-put_staged-clause-asked
returns-in-Err-put_staged-clause-asked g c =
    let rows = rows_of c.args.policy.now in
    let a = c.in-Ok.ensures.asked in (
      a.0,
      a.1,
      no_more _ _ (asked_first rows (found_for c.args.certs.now.entries c.args.cert) c.args.cert a.0 c.requires.absent
          (c.marks_weigh_nothing.ensures.judged_sound rows c.args.cert) a.2),
    )
