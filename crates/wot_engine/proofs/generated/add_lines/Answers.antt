use Rattle.std.proofs.Common.{◌≡◌, ◌∙◌, ap, refl, sym, subst, arith}
use Rattle.wot_policy.specs.declared.rows.PolicyRows.{PolicyRows}
use Rattle.wot_policy.specs.Kept.{rows_of}
use Rattle.wot_keyring_spec.specs.Kept.{IsJudgedBy}
use Rattle.wot_cache.specs.State.{Engine}
use Rattle.wot_machine.specs.Machine.{kept}
use Rattle.wot_plain.specs.Scene.{Scene}
use Rattle.wot_plain.proofs.DirectoryGives.{over}
use Rattle.wot_engine.specs.Played.{Adds}
use Rattle.wot_engine.proofs.Plays.{goes_on, starts_with}
use Rattle.wot_engine.proofs.Fresh.{judged}
use Rattle.wot_engine.proofs.Stops.{unless_ok}
use Rattle.wot_engine.proofs.generated.add_lines.Goals as goal

pub lines-preserved : goal.lines-preserved
lines-preserved g c =
    let rows = rows_of c.args.policy.now in
    let old : Scene = over (kept c.lines.machine) c.lines.shelf.world in
    let new : Scene = over (kept c.add_line.new.machine) c.add_line.new.shelf.world in
    let adds : Adds rows c.first_line.result.0.now old c.lines.tally new c.add_line.new.tally =
    subst (λ (r : PolicyRows). Adds r c.first_line.result.0.now old c.lines.tally new c.add_line.new.tally)
    c.lines.invariant.rows c.in_ok-add_line.ensures.added in
    record {
      plays = goes_on rows c.args.text.now c.lines.rest.now c.first_line.result.1.now c.first_line.result.0.now old new
          c.lines.tally c.add_line.new.tally
          c.lines.invariant.plays c.first_line.ensures.first adds;
      changes = omega (arith, c.add_line.ensures.counted, c.first_line.ensures.shorter, c.lines.invariant.changes);
      revisions = omega (arith, c.add_line.ensures.turned, c.first_line.ensures.shorter, c.lines.invariant.revisions);
      amounts = omega (arith, c.add_line.ensures.amounts, c.first_line.ensures.shorter, c.lines.invariant.amounts);
      judged = subst (λ (r : PolicyRows). IsJudgedBy r c.add_line.new.machine.engine.keyring) c.lines.invariant.rows
          c.add_line.ensures.judged;
      rows = c.add_line.ensures.rows ∙ c.lines.invariant.rows;
      faithful = c.add_line.ensures.faithful;
    }

pub lines-smaller : goal.lines-smaller
lines-smaller g c = omega (arith, c.first_line.ensures.shorter)

pub add_line-requires-clause-room : goal.add_line-requires-clause-room
add_line-requires-clause-room g c = omega (arith, c.lines.invariant.amounts)

pub add_line-requires-clause-countable : goal.add_line-requires-clause-countable
add_line-requires-clause-countable g c = omega (arith, c.lines.invariant.changes)

pub add_line-requires-clause-turnable : goal.add_line-requires-clause-turnable
add_line-requires-clause-turnable g c = omega (arith, c.lines.invariant.revisions)

pub add_line-requires-clause-judged : goal.add_line-requires-clause-judged
add_line-requires-clause-judged g c =
    subst (λ (r : PolicyRows). IsJudgedBy r c.lines.machine.engine.keyring) (sym c.lines.invariant.rows)
    c.lines.invariant.judged

pub add_line-requires-clause-faithful : goal.add_line-requires-clause-faithful
add_line-requires-clause-faithful g c = c.lines.invariant.faithful

pub returns-in_err-add_line-clause-played : goal.returns-in_err-add_line-clause-played
returns-in_err-add_line-clause-played g c = unless_ok c.from_residual.result _ _ c.from_residual.ensures.1

pub returns-in_err-add_line-clause-faithful : goal.returns-in_err-add_line-clause-faithful
returns-in_err-add_line-clause-faithful g c = c.add_line.ensures.faithful

pub returns-in_err-add_line-clause-rows : goal.returns-in_err-add_line-clause-rows
returns-in_err-add_line-clause-rows g c = c.add_line.ensures.rows ∙ c.lines.invariant.rows

pub returns-clause-faithful : goal.returns-clause-faithful
returns-clause-faithful g c = c.lines.invariant.faithful

pub returns-clause-rows : goal.returns-clause-rows
returns-clause-rows g c = c.lines.invariant.rows

pub lines-init : goal.lines-init
lines-init g c =
    let rows = rows_of c.args.policy.now in
    let none : c.args.machine.now.engine.keyring.changes ≡ 0 =
    ap (λ (x : Engine). x.keyring.changes) c.requires.engine in
    let never : c.args.machine.now.engine.revisions.count ≡ 0 = ap (λ (x : Engine). x.revisions.count) c.requires.engine in
    record {
      plays = starts_with rows c.args.text.now c.args.machine.now c.args.shelf.now.world c.args.tally.now
          c.requires.engine c.requires.cursors c.requires.watches c.requires.world c.requires.none;
      changes = omega (arith, none, c.requires.small);
      revisions = omega (arith, never, c.requires.small);
      amounts = omega (arith, c.requires.amounts, c.requires.small);
      judged = judged rows c.args.machine.now.engine c.requires.engine;
      rows = refl;
      faithful = c.requires.faithful;
    }
