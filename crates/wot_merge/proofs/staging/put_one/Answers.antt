use Rattle.std.proofs.Common.{refl}
use Rattle.wot_policy.specs.Kept.{rows_of}
use Rattle.wot_merge.specs.Staging.{found_for}
use Rattle.wot_merge.proofs.ImportSteps.{none_asked, not_asked}
use Rattle.wot_merge.proofs.InPlace.{no_more}
use Rattle.wot_merge.proofs.staging.put_one.Goals as goal

-- ---- in place

pub returns-in-Err-clause-asked : goal.returns-in-Err-clause-asked
returns-in-Err-clause-asked g c = (
  0,
  not_asked c.args.policy.now,
  none_asked c.united_grows.ensures.sound (rows_of c.args.policy.now)
      (found_for c.args.certs.now.entries c.args.cert.now) c.args.cert.now 0 refl,
)

-- ---- with a copy

pub returns-in-Ok-put_staged-clause-merged : goal.returns-in-Ok-put_staged-clause-merged
returns-in-Ok-put_staged-clause-merged g c =
    c.in-Ok-put_staged.ensures.put (rows_of c.args.policy.now) c.args.terms.now c.args.cert.now c.fpr.ensures.fpr
    c.in-Ok-take_step.ensures.step

pub returns-in-Err-put_staged-clause-asked : goal.returns-in-Err-put_staged-clause-asked
returns-in-Err-put_staged-clause-asked g c =
    let a = c.in-Ok-take_step.ensures.asked in
    (a.0, a.1, no_more _ _ a.2)
