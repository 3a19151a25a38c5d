use Rattle.std.proofs.Common.{◌≡◌, ◌+◌, ◌++◌, [], List, ℕ, take, drop, sym, ap, ◌∙◌}
use Rattle.std.proofs.lemmas.Result.{err_from_is_err_and}
use Rattle.wot_io.proofs.Feeds.{nothing-there}
use Rattle.wot_io.proofs.LineSkipped.{Passes-same, Took-passed, Skips-piece, Skips-end, Stops-passed, Took-piece}
use Rattle.wot_io.proofs.skip_long.skip_long.Goals as goal

pub returns-then-is_empty-clause-ok : goal.returns-then-is_empty-clause-ok
returns-then-is_empty-clause-ok g c =
    let empty : c.take.new.self.piece ≡ [] =
    sym c.piece-piece.ensures.piece
    ∙ nothing-there c.piece-piece.result.now c.is_empty.result c.is_empty.ensures c.if-is_empty.true in
    Skips-end c.args.buffer.now.held (g.S.Source.left c.args.from.now) c.args.intake.now.taken 16777216
    (g.S.Source.left c.pieces.from) c.pieces.intake.taken c.take.new.self.piece (g.S.Source.left c.take.new.from)
    c.take.new.self.taken c.pieces.buffer.held
    c.requires.no_feed c.requires.many c.pieces.invariant.passes c.in_ok-take.ensures.loses c.in_ok-take.ensures.taken
    empty (c.in_ok-take.ensures.end empty) c.in_ok-take.ensures.open c.pieces.invariant.held

pub returns-in-Some-clause-ok : goal.returns-in-Some-clause-ok
returns-in-Some-clause-ok g c =
    let rest : c.append.new.self.held ≡ drop (c.in-Some.i + 1) c.piece-piece.result.now =
    c.append.ensures.held ∙ ap (λ (x : List ℕ). x ++ c.split_at.result.1.now) c.pieces.invariant.held
    ∙ c.split_at.ensures.back in
    Skips-piece c.args.buffer.now.held (g.S.Source.left c.args.from.now) c.args.intake.now.taken 16777216
    (g.S.Source.left c.pieces.from) c.pieces.intake.taken c.take.new.self.piece (g.S.Source.left c.take.new.from)
    c.take.new.self.taken
    (take c.in-Some.i c.piece-piece.result.now) (drop (c.in-Some.i + 1) c.piece-piece.result.now) c.append.new.self.held
    c.requires.no_feed c.requires.many c.pieces.invariant.passes c.in_ok-take.ensures.loses c.in_ok-take.ensures.taken
    c.in-Some.ensures.none (sym c.piece-piece.ensures.piece ∙ c.in-Some.ensures.found) rest

pub returns-in-Some-clause-took : goal.returns-in-Some-clause-took
returns-in-Some-clause-took g c =
    Took-piece (g.S.Source.left c.args.from.now) c.args.intake.now.taken (g.S.Source.left c.pieces.from)
    c.pieces.intake.taken c.take.new.self.piece (g.S.Source.left c.take.new.from) c.take.new.self.taken
    c.pieces.invariant.passes c.in_ok-take.ensures.loses c.in_ok-take.ensures.taken

pub returns-then-is_empty-clause-took : goal.returns-then-is_empty-clause-took
returns-then-is_empty-clause-took g c =
    Took-piece (g.S.Source.left c.args.from.now) c.args.intake.now.taken (g.S.Source.left c.pieces.from)
    c.pieces.intake.taken c.take.new.self.piece (g.S.Source.left c.take.new.from) c.take.new.self.taken
    c.pieces.invariant.passes c.in_ok-take.ensures.loses c.in_ok-take.ensures.taken

pub returns-in_err-take-clause-err : goal.returns-in_err-take-clause-err
returns-in_err-take-clause-err g c =
    let p = err_from_is_err_and c.from_residual.result c.from_residual.ensures.1 in
    rw p.1 (Stops-passed c.args.buffer.now.held (g.S.Source.left c.args.from.now) c.args.intake.now.taken
    (g.S.Source.left c.take.new.from) c.take.new.self.taken c.requires.no_feed
    (Passes-same (g.S.Source.left c.args.from.now) c.args.intake.now.taken (g.S.Source.left c.pieces.from)
    c.pieces.intake.taken (g.S.Source.left c.take.new.from) c.take.new.self.taken c.pieces.invariant.passes
    c.in_err-take.ensures.kept.0 c.in_err-take.ensures.kept.1))

pub returns-in_err-take-clause-took : goal.returns-in_err-take-clause-took
returns-in_err-take-clause-took g c =
    Took-passed (g.S.Source.left c.args.from.now) c.args.intake.now.taken (g.S.Source.left c.take.new.from)
    c.take.new.self.taken
    (Passes-same (g.S.Source.left c.args.from.now) c.args.intake.now.taken (g.S.Source.left c.pieces.from)
    c.pieces.intake.taken (g.S.Source.left c.take.new.from) c.take.new.self.taken c.pieces.invariant.passes
    c.in_err-take.ensures.kept.0 c.in_err-take.ensures.kept.1)
