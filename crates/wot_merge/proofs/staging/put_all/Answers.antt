use Rattle.std.proofs.Common.{◌≡◌, ◌≤◌, ◌+◌, ap, subst, refl}
use Rattle.wot_policy.specs.declared.rows.PolicyRows.{PolicyRows}
use Rattle.wot_policy.specs.Kept.{rows_of}
use Rattle.wot_component.specs.Judged.{sound_of}
use Rattle.wot_merge.specs.Staging.{kept_with, weigh_kept}
use Rattle.wot_merge.proofs.ImportSteps.{Put, run_on, asked_again, not_asked, none_yet, asked_on, asked_up_to, clash_told}
use Rattle.wot_merge.proofs.staging.put_all.Goals as goal

pub left-init : goal.left-init
left-init g c = record {
  run = record {
    same = refl;
    sorted = c.requires.sorted;
    leads = λ start led. led;
    tallied = c.requires.tallied;
    fresh = refl;
    clash = refl;
    judged = λ h. h;
  };
  asked = (0, not_asked c.args.policy.now, none_yet _);
  faithful = c.requires.faithful;
}

pub left-preserved : goal.left-preserved
left-preserved g c =
    let i = c.left.invariant in
    let more = c.in-Ok.ensures.asked in
    let es = c.left.certs.entries in
    let new = c.put_next.new.certs.entries in
    let was = c.left.progress in
    let now = c.put_next.new.progress in
    let cert = c.in-Some.cert.now in
    let stamp = c.args.terms.now.stamp in
    let limit = c.args.terms.now.limit in
    let same = ap rows_of i.asked.1 in
    let done : Put (rows_of c.left.policy) stamp limit cert es new was.log.items now.log.items was.tally now.tally =
    record {
      put = c.in-Ok.ensures.put;
      sorted = c.in-Ok.ensures.sorted;
      leads = c.in-Ok.ensures.log;
      tallied = c.in-Ok.ensures.tallied;
      fresh = c.in-Ok.ensures.fresh;
      clash = c.in-Ok.ensures.clash;
      judged = c.in-Ok.ensures.judged;
    } in
    let put = subst (λ (rows : PolicyRows). Put rows stamp limit cert es new was.log.items now.log.items was.tally
    now.tally) same done in
    record {
      run = run_on (rows_of c.args.policy.now) stamp limit c.args.list.now c.args.certs.now.entries
          c.args.progress.now.log.items c.args.progress.now.tally c.left.left.now c.in-Some.rest.now cert es new
          was.log.items now.log.items was.tally now.tally i.run c.in-Some.ensures.cases.0 put;
      asked = (
        i.asked.0 + more.0,
        asked_again c.args.policy.now c.left.policy c.put_next.new.policy i.asked.0 more.0 i.asked.1 more.1,
        asked_on (rows_of c.args.policy.now) stamp _ i.asked.0 more.0 es new cert i.asked.2
            (subst (λ (rows : PolicyRows). more.0 + weigh_kept sound_of es ≡ weigh_kept sound_of
            (kept_with rows stamp es cert)) same more.2) put.put,
      );
      faithful = c.in-Ok.ensures.faithful;
    }

pub returns-in-Err-clause-asked : goal.returns-in-Err-clause-asked
returns-in-Err-clause-asked g c =
    let i = c.left.invariant in
    let more = c.in-Err.ensures.asked in
    let es = c.left.certs.entries in
    let cert = c.in-Some.cert.now in
    let stamp = c.args.terms.now.stamp in (
      i.asked.0 + more.0,
      asked_again c.args.policy.now c.left.policy c.put_next.new.policy i.asked.0 more.0 i.asked.1 more.1,
      asked_up_to c.united_grows.ensures.sound (rows_of c.args.policy.now) stamp c.args.terms.now.limit c.args.list.now
          c.args.certs.now.entries c.args.progress.now.log.items c.args.progress.now.tally c.left.left.now
          c.in-Some.rest.now cert es c.left.progress.log.items c.left.progress.tally i.asked.0 more.0 i.run
          c.in-Some.ensures.cases.0 i.asked.2
          (subst (λ (rows : PolicyRows). more.0 + weigh_kept sound_of es ≤ weigh_kept sound_of
          (kept_with rows stamp es cert)) (ap rows_of i.asked.1) more.2),
    )

pub returns-in-Err-clause-clash : goal.returns-in-Err-clause-clash
returns-in-Err-clause-clash g c =
    clash_told (rows_of c.args.policy.now) c.args.terms.now.stamp c.args.terms.now.limit c.args.list.now
    c.args.certs.now.entries c.args.progress.now.log.items c.args.progress.now.tally c.left.left.now
    c.in-Some.rest.now c.in-Some.cert.now c.left.certs.entries c.left.progress.log.items c.left.progress.tally
    c.in-Err.fault c.left.invariant.run c.in-Some.ensures.cases.0 c.in-Err.ensures.clash
