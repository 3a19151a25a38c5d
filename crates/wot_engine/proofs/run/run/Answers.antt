use Rattle.std.proofs.Common.{[], inr, refl, ap}
use Rattle.wot_policy.specs.Kept.{rows_of}
use Rattle.wot_plain.specs.Session.{beginning}
use Rattle.wot_engine.specs.Ends.{status_at}
use Rattle.wot_engine.specs.declared.run.Stop.TheVariants.{Memory, Read, Write}
use Rattle.wot_engine.proofs.HasAsked.{HasAsked-init, asks_between}
use Rattle.wot_engine.proofs.Does.{does_memory}
use Rattle.wot_engine.proofs.Does.{takes_some}
use Rattle.wot_engine.proofs.Stops.{never, stopped}
use Rattle.wot_engine.proofs.LineReplies.{Begun-nothing, First-nothing}
use Rattle.wot_engine.proofs.LineReplies.{Reached-nothing}
use Rattle.wot_engine.proofs.TakesAtMost.{takes_nothing}
use Rattle.wot_engine.proofs.run.run.Goals as goal

-- ---- out of memory for the reader

pub returns-in_err-lines-clause-does : goal.returns-in_err-lines-clause-does
returns-in_err-lines-clause-does g c =
    does_memory (rows_of c.args.policy.now) _ _ _ c.from_residual.result
    (stopped c.from_residual.result Memory c.from_residual.ensures.1)
    (Begun-nothing (rows_of c.args.policy.now) (record {
      some = c.each_line_has_one_outcome.ensures.some (rows_of c.args.policy.now);
      one = c.each_line_has_one_outcome.ensures.one (rows_of c.args.policy.now);
      stays = c.each_line_has_one_outcome.ensures.stays (rows_of c.args.policy.now);
      tells = c.each_line_has_one_outcome.ensures.tells;
      tells_one = c.each_line_has_one_outcome.ensures.tells_one;
    })
    (g.S.Source.left c.args.input.now) (g.K.Sink.written c.args.output.now) (g.D.Shelf.world c.args.shelf.now))
    (Reached-nothing (rows_of c.args.policy.now) (g.S.Source.left c.args.input.now) (g.K.Sink.written c.args.output.now)
    (g.D.Shelf.world c.args.shelf.now))
    (First-nothing (rows_of c.args.policy.now) (g.S.Source.left c.args.input.now) (g.K.Sink.written c.args.output.now)
    (g.D.Shelf.world c.args.shelf.now))

pub returns-in_err-lines-clause-takes : goal.returns-in_err-lines-clause-takes
returns-in_err-lines-clause-takes g c =
    takes_some _ c.from_residual.result Memory
    (stopped c.from_residual.result Memory c.from_residual.ensures.1) tt (takes_nothing (g.S.Source.left
    c.args.input.now))

pub returns-in_err-lines-clause-source : goal.returns-in_err-lines-clause-source
returns-in_err-lines-clause-source g c e =
    absurd (never c.from_residual.result Memory Read (stopped c.from_residual.result Memory c.from_residual.ensures.1)
    tt e)

pub returns-in_err-lines-clause-sink : goal.returns-in_err-lines-clause-sink
returns-in_err-lines-clause-sink g c e =
    absurd (never c.from_residual.result Memory Write (stopped c.from_residual.result Memory c.from_residual.ensures.1)
    tt e)

pub returns-in_err-lines-clause-faithful : goal.returns-in_err-lines-clause-faithful
returns-in_err-lines-clause-faithful g c =
    c.requires.faithful

pub returns-in_err-lines-clause-rows : goal.returns-in_err-lines-clause-rows
returns-in_err-lines-clause-rows g c =
    refl

pub returns-in_err-lines-clause-asked : goal.returns-in_err-lines-clause-asked
returns-in_err-lines-clause-asked g c =
    asks_between (rows_of c.args.policy.now) c.args.policy.now (g.D.Shelf.world c.args.shelf.now)
    (status_at c.from_residual.result) (g.S.Source.left c.args.input.now) (g.K.Sink.written c.args.output.now) [] 0
    (g.S.Source.left c.args.input.now) (g.D.Shelf.world c.args.shelf.now) beginning c.args.policy.now
    (g.S.Source.left c.args.input.now)
    (inr (ap status_at (stopped c.from_residual.result Memory c.from_residual.ensures.1)))
    (HasAsked-init (rows_of c.args.policy.now) c.args.policy.now (g.D.Shelf.world c.args.shelf.now)
    (g.S.Source.left c.args.input.now) (g.K.Sink.written c.args.output.now))

-- ---- everything else follows from the contract of `answer_lines`

pub returns-clause-does : goal.returns-clause-does
returns-clause-does g c = c.answer_lines-ended.ensures.runs.does

pub returns-clause-takes : goal.returns-clause-takes
returns-clause-takes g c = c.answer_lines-ended.ensures.runs.takes

pub returns-clause-source : goal.returns-clause-source
returns-clause-source g c = c.answer_lines-ended.ensures.source

pub returns-clause-sink : goal.returns-clause-sink
returns-clause-sink g c = c.answer_lines-ended.ensures.sink

pub returns-clause-asked : goal.returns-clause-asked
returns-clause-asked g c = c.answer_lines-ended.ensures.runs.asked

pub returns-clause-faithful : goal.returns-clause-faithful
returns-clause-faithful g c = c.answer_lines-ended.ensures.runs.faithful

pub returns-clause-rows : goal.returns-clause-rows
returns-clause-rows g c = c.answer_lines-ended.ensures.runs.rows

pub answer_lines-ended-requires-clause-unread : goal.answer_lines-ended-requires-clause-unread
answer_lines-ended-requires-clause-unread g c = c.in_ok-lines.ensures

pub answer_lines-ended-requires-clause-engine : goal.answer_lines-ended-requires-clause-engine
answer_lines-ended-requires-clause-engine g c = c.new-machine.ensures.start

pub answer_lines-ended-requires-clause-cursors : goal.answer_lines-ended-requires-clause-cursors
answer_lines-ended-requires-clause-cursors g c = c.new-machine.ensures.cursors

pub answer_lines-ended-requires-clause-watches : goal.answer_lines-ended-requires-clause-watches
answer_lines-ended-requires-clause-watches g c = c.new-machine.ensures.watches

pub answer_lines-ended-requires-clause-faithful : goal.answer_lines-ended-requires-clause-faithful
answer_lines-ended-requires-clause-faithful g c = c.requires.faithful
