use Rattle.wot_policy.specs.Kept.{rows_of}
use Rattle.wot_merge.proofs.ImportSteps.{Put, can_count, put_done}
use Rattle.wot_merge.proofs.InPlace.{asked_less, no_more}
use Rattle.wot_merge.proofs.Steps.{asked_moved}
use Rattle.wot_merge.proofs.staging.put_next.Goals as goal

pub returns-in-Err-clause-asked : goal.returns-in-Err-clause-asked
returns-in-Err-clause-asked g c =
    let a = c.in-Err.ensures.asked in (
      a.0,
      a.1,
      asked_less (rows_of c.args.policy.now) c.args.terms.now.stamp c.args.certs.now.entries c.args.cert.now a.0
          c.requires.sorted a.2,
    )

pub count-requires : goal.count-requires
count-requires g c = record {
  can = can_count (rows_of c.args.policy.now) c.args.terms.now c.args.cert.now c.args.certs.now.entries
      c.put_one.new.certs.entries c.in-Ok.step c.in-Ok.ensures.merged c.requires.sorted c.args.progress.now.tally
      c.requires.tallied;
}

pub returns-in-Err-count-clause-asked : goal.returns-in-Err-count-clause-asked
returns-in-Err-count-clause-asked g c =
    let a = c.in-Ok.ensures.asked in (
      a.0,
      a.1,
      no_more _ _ (asked_moved (rows_of c.args.policy.now) c.args.terms.now.stamp c.args.certs.now.entries
          c.args.cert.now a.0 c.requires.sorted a.2),
    )

done : (g : _) (c : goal.In-Ok-count g) → Put (rows_of c.args.policy.now) c.args.terms.now.stamp c.args.terms.now.limit
    c.args.cert.now c.args.certs.now.entries c.put_one.new.certs.entries c.args.progress.now.log.items
    c.put_one.new.log.items c.args.progress.now.tally c.count.new.tally
done g c =
    put_done (rows_of c.args.policy.now) c.args.terms.now c.args.cert.now c.args.certs.now.entries
    c.put_one.new.certs.entries c.in-Ok.step c.in-Ok.ensures.merged c.requires.sorted c.args.progress.now.tally
    c.requires.tallied c.args.progress.now.log.items c.put_one.new.log.items c.count.new.tally c.in-Ok.ensures.log
    c.in-Ok.ensures.clash c.in-Ok-count.ensures.moved c.in-Ok-count.ensures.fresh

pub returns-in-Ok-count-clause-put : goal.returns-in-Ok-count-clause-put
returns-in-Ok-count-clause-put g c = (done g c).put

pub returns-in-Ok-count-clause-sorted : goal.returns-in-Ok-count-clause-sorted
returns-in-Ok-count-clause-sorted g c = (done g c).sorted

pub returns-in-Ok-count-clause-tallied : goal.returns-in-Ok-count-clause-tallied
returns-in-Ok-count-clause-tallied g c = (done g c).tallied

pub returns-in-Ok-count-clause-fresh : goal.returns-in-Ok-count-clause-fresh
returns-in-Ok-count-clause-fresh g c = (done g c).fresh

pub returns-in-Ok-count-clause-asked : goal.returns-in-Ok-count-clause-asked
returns-in-Ok-count-clause-asked g c =
    let a = c.in-Ok.ensures.asked in (
      a.0,
      a.1,
      asked_moved (rows_of c.args.policy.now) c.args.terms.now.stamp c.args.certs.now.entries c.args.cert.now a.0
          c.requires.sorted a.2,
    )

pub returns-in-Ok-count-clause-judged : goal.returns-in-Ok-count-clause-judged
returns-in-Ok-count-clause-judged g c = (done g c).judged
