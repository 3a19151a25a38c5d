use Rattle.std.proofs.Common.{inl, inr, sym, ◌∙◌, map, arith}
use Rattle.std.specs.String.{string_bytes}
use Rattle.wot_policy.specs.Kept.{rows_of}
use Rattle.wot_engine.proofs.Promises.{between, no_causes, no_run_writes, no_script, right_words, run_causes, run_writes}
use Rattle.wot_engine.proofs.Promises.{same, script_causes, script_generates, wrong_words}
use Rattle.wot_engine.proofs.Statuses.{is_done, never_much, never_read}
use Rattle.wot_engine.proofs.Forms.{one_form, script_bounds}
use Rattle.wot_engine.proofs.words.run_words.Goals as goal

-- ---- wrong arguments

pub returns-in-None-clause-whole : goal.returns-in-None-clause-whole
returns-in-None-clause-whole g c done = absurd (c.in-None.ensures.form (inl done.0))

pub returns-in-None-clause-writes : goal.returns-in-None-clause-writes
returns-in-None-clause-writes g c =
    no_run_writes 2 c.args.words.now (rows_of c.args.policy.now)
    (g.S.Source.left c.args.input.now) (g.K.Sink.written c.args.output.now) (g.K.Sink.written c.args.output.now)
    (g.D.Shelf.world c.args.shelf.now) (λ form. c.in-None.ensures.form (inl form))
    (λ e. omega (arith, e)) (λ e. omega (arith, e))

pub returns-in-None-clause-generates : goal.returns-in-None-clause-generates
returns-in-None-clause-generates g c =
    no_script 2 c.args.words.now (rows_of c.args.policy.now) (same c.args.input.now)
    (same (g.K.Sink.written c.args.output.now)) (same c.args.shelf.now)
    (λ start count p. c.in-None.ensures.form (inr (start, count, p)))

pub returns-in-None-clause-status : goal.returns-in-None-clause-status
returns-in-None-clause-status g c =
    wrong_words c.args.words.now c.args.input.now c.args.output.now c.args.shelf.now c.in-None.ensures.form

pub returns-in-None-clause-causes : goal.returns-in-None-clause-causes
returns-in-None-clause-causes g c =
    no_causes c.args.words.now (g.S.Source.left c.args.input.now) (same (g.S.Source.faults c.args.input.now))
    (same (g.K.Sink.faults c.args.output.now)) c.in-None.ensures.form

pub returns-in-None-clause-asked : goal.returns-in-None-clause-asked
returns-in-None-clause-asked g c form = absurd (c.in-None.ensures.form (inl form))

-- ---- a run

pub returns-in-Some-Run-clause-whole : goal.returns-in-Some-Run-clause-whole
returns-in-Some-Run-clause-whole g c done = is_done c.run.result _ (sym c.status_of.ensures ∙ done.1)
    c.run.ensures.does.whole

pub returns-in-Some-Run-clause-writes : goal.returns-in-Some-Run-clause-writes
returns-in-Some-Run-clause-writes g c =
    run_writes c.run.result c.status_of.result c.status_of.ensures c.args.words.now (rows_of c.args.policy.now)
    (between (g.S.Source.left c.args.input.now) (g.S.Source.left c.run.new.input))
    (between (g.K.Sink.written c.args.output.now) (g.K.Sink.written c.run.new.output))
    (between (g.D.Shelf.world c.args.shelf.now) (g.D.Shelf.world c.run.new.shelf))
    c.run.ensures.does c.run.ensures.takes

pub returns-in-Some-Run-clause-generates : goal.returns-in-Some-Run-clause-generates
returns-in-Some-Run-clause-generates g c =
    no_script c.status_of.result c.args.words.now (rows_of c.args.policy.now)
    (between c.args.input.now c.run.new.input)
    (between (g.K.Sink.written c.args.output.now) (g.K.Sink.written c.run.new.output))
    (between c.args.shelf.now c.run.new.shelf)
    (λ start count p. one_form (map string_bytes c.args.words.now) start count
    (rw c.in-Some-Run.field-0-is at c.in-Some-Run.ensures.form) p)

pub returns-in-Some-Run-clause-status : goal.returns-in-Some-Run-clause-status
returns-in-Some-Run-clause-status g c =
    right_words c.run.result c.status_of.result c.status_of.ensures c.args.words.now
    (between c.args.input.now c.run.new.input) (between c.args.output.now c.run.new.output)
    (between c.args.shelf.now c.run.new.shelf) (inl (rw c.in-Some-Run.field-0-is at c.in-Some-Run.ensures.form))

pub returns-in-Some-Run-clause-causes : goal.returns-in-Some-Run-clause-causes
returns-in-Some-Run-clause-causes g c =
    run_causes c.run.result c.status_of.result c.status_of.ensures c.args.words.now
    (g.S.Source.left c.args.input.now)
    (between (g.S.Source.faults c.args.input.now) (g.S.Source.faults c.run.new.input))
    (between (g.K.Sink.faults c.args.output.now) (g.K.Sink.faults c.run.new.output))
    c.run.ensures.source c.run.ensures.sink c.run.ensures.takes.much

pub returns-in-Some-Run-clause-asked : goal.returns-in-Some-Run-clause-asked
returns-in-Some-Run-clause-asked g c form = rw c.status_of.ensures c.run.ensures.asked

-- ---- a generated run

pub returns-in-Some-Generate-clause-whole : goal.returns-in-Some-Generate-clause-whole
returns-in-Some-Generate-clause-whole g c done =
    absurd (one_form (map string_bytes c.args.words.now) c.in-Some-Generate.start c.in-Some-Generate.count done.0
    (rw c.in-Some-Generate.field-0-is at c.in-Some-Generate.ensures.form))

pub returns-in-Some-Generate-clause-writes : goal.returns-in-Some-Generate-clause-writes
returns-in-Some-Generate-clause-writes g c =
    no_run_writes c.status_of-in-Some-Generate.result c.args.words.now (rows_of c.args.policy.now)
    (g.S.Source.left c.args.input.now) (g.K.Sink.written c.args.output.now)
    (g.K.Sink.written c.generate.new.output) (g.D.Shelf.world c.args.shelf.now)
    (λ form. one_form (map string_bytes c.args.words.now) c.in-Some-Generate.start c.in-Some-Generate.count form
    (rw c.in-Some-Generate.field-0-is at c.in-Some-Generate.ensures.form))
    (never_read c.generate.result c.status_of-in-Some-Generate.result c.status_of-in-Some-Generate.ensures
    c.generate.ensures.ends)
    (never_much c.generate.result c.status_of-in-Some-Generate.result c.status_of-in-Some-Generate.ensures
    c.generate.ensures.ends)

pub returns-in-Some-Generate-clause-generates : goal.returns-in-Some-Generate-clause-generates
returns-in-Some-Generate-clause-generates g c =
    script_generates c.generate.result c.status_of-in-Some-Generate.result c.status_of-in-Some-Generate.ensures
    c.generate.ensures.ends c.args.words.now (rows_of c.args.policy.now) c.in-Some-Generate.start
    c.in-Some-Generate.count c.args.input.now
    (between (g.K.Sink.written c.args.output.now) (g.K.Sink.written c.generate.new.output)) c.args.shelf.now
    (rw c.in-Some-Generate.field-0-is at c.in-Some-Generate.ensures.form) c.generate.ensures.whole
    c.generate.ensures.prefix

pub returns-in-Some-Generate-clause-status : goal.returns-in-Some-Generate-clause-status
returns-in-Some-Generate-clause-status g c =
    right_words c.generate.result c.status_of-in-Some-Generate.result c.status_of-in-Some-Generate.ensures
    c.args.words.now (same c.args.input.now) (between c.args.output.now c.generate.new.output)
    (same c.args.shelf.now)
    (inr (
      c.in-Some-Generate.start,
      c.in-Some-Generate.count,
      (rw c.in-Some-Generate.field-0-is at c.in-Some-Generate.ensures.form),
    ))

pub returns-in-Some-Generate-clause-causes : goal.returns-in-Some-Generate-clause-causes
returns-in-Some-Generate-clause-causes g c =
    script_causes c.generate.result c.status_of-in-Some-Generate.result c.status_of-in-Some-Generate.ensures
    c.args.words.now (g.S.Source.left c.args.input.now) (same (g.S.Source.faults c.args.input.now))
    (between (g.K.Sink.faults c.args.output.now) (g.K.Sink.faults c.generate.new.output))
    c.generate.ensures.ends c.generate.ensures.sink

pub returns-in-Some-Generate-clause-asked : goal.returns-in-Some-Generate-clause-asked
returns-in-Some-Generate-clause-asked g c form =
    absurd
    (one_form (map string_bytes c.args.words.now) c.in-Some-Generate.start c.in-Some-Generate.count form
    (rw c.in-Some-Generate.field-0-is at c.in-Some-Generate.ensures.form))

-- ---- what is required

pub generate-requires-clause-some : goal.generate-requires-clause-some
generate-requires-clause-some g c =
    (script_bounds (map string_bytes c.args.words.now) c.in-Some-Generate.start c.in-Some-Generate.count
    (rw c.in-Some-Generate.field-0-is at c.in-Some-Generate.ensures.form)).0

pub generate-requires-clause-few : goal.generate-requires-clause-few
generate-requires-clause-few g c =
    (script_bounds (map string_bytes c.args.words.now) c.in-Some-Generate.start c.in-Some-Generate.count
    (rw c.in-Some-Generate.field-0-is at c.in-Some-Generate.ensures.form)).1
