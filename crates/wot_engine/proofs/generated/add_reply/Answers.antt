use Rattle.std.proofs.Common.{Some, refl, subst, sym}
use Rattle.wot_policy.specs.Kept.{rows_of}
use Rattle.wot_keyring_spec.specs.Kept.{IsJudgedBy}
use Rattle.wot_cache.specs.State.{Engine}
use Rattle.wot_machine.specs.Machine.{kept}
use Rattle.wot_command.specs.CommandRun.{Seen}
use Rattle.wot_machine.proofs.CommandsInLines.{told_settled}
use Rattle.wot_engine.proofs.Plays.{adds_none}
use Rattle.wot_engine.proofs.generated.add_reply.Goals as goal

pub reply-requires : goal.reply-requires
reply-requires g c = record {
  countable = record { changes = c.requires.countable; revisions = c.requires.turnable };
  judging = record { judged = c.requires.judged; faithful = c.requires.faithful };
}

pub returns-in_ok-add-in-Some-clause-added : goal.returns-in_ok-add-in-Some-clause-added
returns-in_ok-add-in-Some-clause-added g c =
    let before : Seen = record { world = Some c.args.shelf.now.world; faults = c.args.shelf.now.faults } in
    let after : Seen = record { world = Some c.reply.new.shelf.world; faults = c.reply.new.shelf.faults } in
    record {
      reply = Some c.in-Some.field-0.reply;
      replied = told_settled (rows_of c.args.policy.now) c.args.line.now (kept c.args.machine.now) before
          c.reply.new.self.engine c.reply.new.self.cursors c.reply.new.self.watches
          c.move_cursor.new.self.engine c.move_cursor.new.self.cursors c.move_cursor.new.self.watches after c.in-Some.field-0
          c.in-Some.field-0.reply c.in-Some.field-0.moved refl refl
          (rw c.in-Some.is at c.in_ok-reply.ensures.replied) c.move_cursor.ensures.engine c.move_cursor.ensures.settled
          c.move_cursor.ensures.watches;
      tells = c.in_ok-add-in-Some.ensures.added;
    }

pub returns-in-None-clause-added : goal.returns-in-None-clause-added
returns-in-None-clause-added g c =
    let before : Seen = record { world = Some c.args.shelf.now.world; faults = c.args.shelf.now.faults } in
    let after : Seen = record { world = Some c.reply.new.shelf.world; faults = c.reply.new.shelf.faults } in
    adds_none (rows_of c.args.policy.now) c.args.line.now (kept c.args.machine.now) (kept c.reply.new.self) before after
    c.args.tally.now
    (rw c.in-None.is at c.in_ok-reply.ensures.replied)

-- ---- the policy

pub returns-in_ok-add-in-Some-clause-judged : goal.returns-in_ok-add-in-Some-clause-judged
returns-in_ok-add-in-Some-clause-judged g c =
    subst (λ (e : Engine). IsJudgedBy (rows_of c.args.policy.now) e.keyring) (sym c.move_cursor.ensures.engine)
    c.reply.ensures.judging.judged

pub returns-in_ok-add-in-Some-clause-faithful : goal.returns-in_ok-add-in-Some-clause-faithful
returns-in_ok-add-in-Some-clause-faithful g c = c.reply.ensures.judging.faithful

pub returns-in_ok-add-in-Some-clause-rows : goal.returns-in_ok-add-in-Some-clause-rows
returns-in_ok-add-in-Some-clause-rows g c = c.reply.ensures.judging.rows

pub returns-in_err-add-in-Some-clause-judged : goal.returns-in_err-add-in-Some-clause-judged
returns-in_err-add-in-Some-clause-judged g c = c.reply.ensures.judging.judged

pub returns-in_err-add-in-Some-clause-faithful : goal.returns-in_err-add-in-Some-clause-faithful
returns-in_err-add-in-Some-clause-faithful g c = c.reply.ensures.judging.faithful

pub returns-in_err-add-in-Some-clause-rows : goal.returns-in_err-add-in-Some-clause-rows
returns-in_err-add-in-Some-clause-rows g c = c.reply.ensures.judging.rows

pub returns-in-None-clause-judged : goal.returns-in-None-clause-judged
returns-in-None-clause-judged g c = c.reply.ensures.judging.judged

pub returns-in-None-clause-faithful : goal.returns-in-None-clause-faithful
returns-in-None-clause-faithful g c = c.reply.ensures.judging.faithful

pub returns-in-None-clause-rows : goal.returns-in-None-clause-rows
returns-in-None-clause-rows g c = c.reply.ensures.judging.rows

pub returns-in_err-reply-clause-judged : goal.returns-in_err-reply-clause-judged
returns-in_err-reply-clause-judged g c = c.reply.ensures.judging.judged

pub returns-in_err-reply-clause-faithful : goal.returns-in_err-reply-clause-faithful
returns-in_err-reply-clause-faithful g c = c.reply.ensures.judging.faithful

pub returns-in_err-reply-clause-rows : goal.returns-in_err-reply-clause-rows
returns-in_err-reply-clause-rows g c = c.reply.ensures.judging.rows
