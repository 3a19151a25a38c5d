use Rattle.std.proofs.Common.{rules, ◌≤◌, ap, inl, arith}
use Rattle.std.specs.Prelude.{is_ok}
use Rattle.wot_cache.specs.Marks.{IsRefreshed}
use Rattle.wot_plain.proofs.EdgesMadeByLine.{refreshed_as}
use Rattle.wot_cursor_commands.proofs.Pieces.{gives_piece}
use Rattle.wot_cursor_commands.proofs.pacing.give.Goals as goal

pub returns-in-Ok-clause-gives : goal.returns-in-Ok-clause-gives
returns-in-Ok-clause-gives c cursors =
    let some : 1 ≤ c.args.cursor.now.wanted =
    (let n = c.if-wanted-eq0.false in omega (arith, n, c.wanted.ensures.wanted)) in
    gives_piece c.piece.result c.args.engine.now cursors c.args.name.now c.args.count c.args.cursor.now c.in-Ok.parts
    some
    (rw c.view.ensures.view at c.in-Ok.ensures.parts) c.list_is_one.ensures.some c.piece.ensures.piece

pub returns-in-Ok-clause-makes : goal.returns-in-Ok-clause-makes
returns-in-Ok-clause-makes c =
    let made : IsRefreshed c.parts.result c.view.result.now c.args.engine.now c.parts.follows.lender-at-none
    c.args.steps.now.made c.parts.new.steps.made = search rules in
    inl (refreshed_as c.parts.result c.piece.result (λ ok. ap is_ok c.in-Ok.is) c.args.cursor.now.view c.args.engine.now
    c.parts.follows.lender-at-none c.args.steps.now.made c.parts.new.steps.made
    (rw c.view.ensures.view at made))
