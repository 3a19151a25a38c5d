use Rattle.std.proofs.Common.{None}
use Rattle.wot_io.specs.ReaderState.{reader_state}
use Rattle.wot_io.proofs.LineCut.{feed_answers, rest_answers, long_after, Took-after, Stops-moved, Stops-after}
use Rattle.wot_io.proofs.OctetsMoved.{Took-moved}
use Rattle.wot_io.proofs.lines.read_line.Goals as goal

pub returns-in-Err-clause-stops : goal.returns-in-Err-clause-stops
returns-in-Err-clause-stops g c =
    let moves = rw c.give_none.ensures.held at c.in-Err.ensures.moves in
    Stops-moved c.args.buffer.now.held (g.S.Source.left c.args.from.now) c.args.intake.now.taken c.fill.new.buffer.held
    (g.S.Source.left c.fill.new.from) c.fill.new.intake.taken moves c.in-Err.ensures.no_feed

pub returns-in-Ok-Feed-clause-ok : goal.returns-in-Ok-Feed-clause-ok
returns-in-Ok-Feed-clause-ok g c =
    let moves = rw c.give_none.ensures.held at c.in-Ok-Feed.ensures.moves in
    let tells = rw c.in-Ok-Feed.field-0-is at c.in-Ok-Feed.ensures.ok in
    feed_answers (reader_state c.args.buffer.now c.args.intake.now None)
    (reader_state c.cut.new.buffer c.fill.new.intake None) (g.S.Source.left c.args.from.now)
    (g.S.Source.left c.fill.new.from) c.fill.new.buffer.held c.in-Ok-Feed.i c.cut.result
    moves tells.0 tells.1 tells.2 c.cut.ensures.line c.cut.ensures.text c.cut.ensures.held

pub returns-in-Ok-End-clause-ok : goal.returns-in-Ok-End-clause-ok
returns-in-Ok-End-clause-ok g c =
    let moves = rw c.give_none.ensures.held at c.in-Ok-End.ensures.moves in
    let tells = rw c.in-Ok-End.field-0-is at c.in-Ok-End.ensures.ok in
    rest_answers (reader_state c.args.buffer.now c.args.intake.now None)
    (reader_state c.give_last.new.buffer c.fill.new.intake None) (g.S.Source.left c.args.from.now)
    (g.S.Source.left c.fill.new.from) c.fill.new.buffer.held c.give_last.result
    moves tells c.give_last.ensures.end c.give_last.ensures.text c.give_last.ensures.held

pub returns-in-Err-skip_long-clause-took : goal.returns-in-Err-skip_long-clause-took
returns-in-Err-skip_long-clause-took g c =
    let moves = rw c.give_none.ensures.held at c.in-Ok-Over.ensures.moves in
    Took-after c.args.buffer.now.held (g.S.Source.left c.args.from.now) c.args.intake.now.taken c.fill.new.buffer.held
    (g.S.Source.left c.fill.new.from) c.fill.new.intake.taken (g.S.Source.left c.skip_long.new.from) c.skip_long.new.intake.taken
    moves c.in-Err-skip_long.ensures.took

pub returns-in-Err-skip_long-clause-stops : goal.returns-in-Err-skip_long-clause-stops
returns-in-Err-skip_long-clause-stops g c =
    let moves = rw c.give_none.ensures.held at c.in-Ok-Over.ensures.moves in
    Stops-after c.args.buffer.now.held (g.S.Source.left c.args.from.now) c.args.intake.now.taken c.fill.new.buffer.held
    (g.S.Source.left c.fill.new.from) c.fill.new.intake.taken (g.S.Source.left c.skip_long.new.from) c.skip_long.new.intake.taken
    moves c.in-Err-skip_long.ensures.err

pub returns-in-Ok-clause-took : goal.returns-in-Ok-clause-took
returns-in-Ok-clause-took g c =
    let moves = rw c.give_none.ensures.held at c.in-Ok-Over.ensures.moves in
    Took-after c.args.buffer.now.held (g.S.Source.left c.args.from.now) c.args.intake.now.taken c.fill.new.buffer.held
    (g.S.Source.left c.fill.new.from) c.fill.new.intake.taken (g.S.Source.left c.skip_long.new.from) c.skip_long.new.intake.taken
    moves c.in-Ok.ensures.took

pub returns-in-Ok-clause-ok : goal.returns-in-Ok-clause-ok
returns-in-Ok-clause-ok g c =
    let moves = rw c.give_none.ensures.held at c.in-Ok-Over.ensures.moves in
    long_after (reader_state c.args.buffer.now c.args.intake.now None)
    (reader_state c.skip_long.new.buffer c.skip_long.new.intake None) (g.S.Source.left c.args.from.now) c.fill.new.buffer.held
    (g.S.Source.left c.fill.new.from) c.fill.new.intake.taken (g.S.Source.left c.skip_long.new.from) moves c.in-Ok.ensures.ok

pub returns-in-Err-clause-took : goal.returns-in-Err-clause-took
returns-in-Err-clause-took g c =
    let moves = rw c.give_none.ensures.held at c.in-Err.ensures.moves in
    Took-moved c.args.buffer.now.held (g.S.Source.left c.args.from.now) c.args.intake.now.taken c.fill.new.buffer.held
    (g.S.Source.left c.fill.new.from) c.fill.new.intake.taken moves

pub returns-in-Ok-Feed-clause-took : goal.returns-in-Ok-Feed-clause-took
returns-in-Ok-Feed-clause-took g c =
    let moves = rw c.give_none.ensures.held at c.in-Ok-Feed.ensures.moves in
    Took-moved c.args.buffer.now.held (g.S.Source.left c.args.from.now) c.args.intake.now.taken c.fill.new.buffer.held
    (g.S.Source.left c.fill.new.from) c.fill.new.intake.taken moves

pub returns-in-Ok-End-clause-took : goal.returns-in-Ok-End-clause-took
returns-in-Ok-End-clause-took g c =
    let moves = rw c.give_none.ensures.held at c.in-Ok-End.ensures.moves in
    Took-moved c.args.buffer.now.held (g.S.Source.left c.args.from.now) c.args.intake.now.taken c.fill.new.buffer.held
    (g.S.Source.left c.fill.new.from) c.fill.new.intake.taken moves
