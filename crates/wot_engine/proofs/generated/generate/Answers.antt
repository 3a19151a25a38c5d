use Rattle.wot_policy.specs.Kept.{rows_of}
use Rattle.wot_engine.proofs.Stops.{unless_ok}
use Rattle.wot_engine.proofs.Summary.{all_begun, all_written, not_begun}
use Rattle.wot_engine.proofs.generated.generate.Goals as goal

pub returns-in_err-text-clause-prefix : goal.returns-in_err-text-clause-prefix
returns-in_err-text-clause-prefix g c =
    not_begun (rows_of c.args.policy.now) c.args.start c.args.count
    (record {
      some = c.each_line_has_one_outcome.ensures.some (rows_of c.args.policy.now);
      one = c.each_line_has_one_outcome.ensures.one (rows_of c.args.policy.now);
      stays = c.each_line_has_one_outcome.ensures.stays (rows_of c.args.policy.now);
      tells = c.each_line_has_one_outcome.ensures.tells;
      tells_one = c.each_line_has_one_outcome.ensures.tells_one;
    })
    (g.K.Sink.written c.args.output.now)

pub returns-clause-prefix : goal.returns-clause-prefix
returns-clause-prefix g c =
    all_begun (rows_of c.args.policy.now) c.args.start c.args.count (g.K.Sink.written c.args.output.now)
    (g.K.Sink.written c.write_all.new.to)
    (all_written (rows_of c.args.policy.now) c.args.start c.args.count (g.K.Sink.written c.args.output.now)
    (g.K.Sink.written c.write_all.new.to) c.in_ok-text.text.items
    c.in_ok-text.ensures.summary (rw c.deref.ensures.value at c.in_ok-write_all.ensures.ok))

pub returns-clause-whole : goal.returns-clause-whole
returns-clause-whole g c =
    all_written (rows_of c.args.policy.now) c.args.start c.args.count (g.K.Sink.written c.args.output.now)
    (g.K.Sink.written c.write_all.new.to) c.in_ok-text.text.items
    c.in_ok-text.ensures.summary (rw c.deref.ensures.value at c.in_ok-write_all.ensures.ok)

pub returns-in_err-text-clause-whole : goal.returns-in_err-text-clause-whole
returns-in_err-text-clause-whole g c = unless_ok c.from_residual.result _ _ c.from_residual.ensures.1

pub returns-in_err-write_all-clause-whole : goal.returns-in_err-write_all-clause-whole
returns-in_err-write_all-clause-whole g c = unless_ok c.from_residual-in_err-write_all.result _ _
    c.from_residual-in_err-write_all.ensures.1
