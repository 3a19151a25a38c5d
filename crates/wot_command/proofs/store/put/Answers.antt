use Rattle.std.proofs.Common.{refl}
use Rattle.wot_plain.proofs.Faults.{failed, for_memory}
use Rattle.wot_command.proofs.FailedPut.{put_failed}
use Rattle.wot_command.proofs.DirectoryAfterFailure.{replaced_may}
use Rattle.wot_command.proofs.store.put.Goals as goal

pub returns-in-Err-clause-puts : goal.returns-in-Err-clause-puts
returns-in-Err-clause-puts g c =
    failed c.reply_to.result c.from.result c.in-Err.fault _ c.from.ensures c.reply_to.ensures.reply (λ e.
    put_failed (g.D.Shelf.world c.args.shelf.now) (g.D.Shelf.world c.replace.new.self) (g.D.Shelf.faults c.args.shelf.now)
    (g.D.Shelf.faults c.replace.new.self) c.args.name.now c.args.octets.now (rw e at c.in-Err.ensures.answers)
    (rw e at c.in-Err.ensures.after) ((rw e at c.in-Err.ensures.cause) refl))

pub returns-in-Err-clause-entries : goal.returns-in-Err-clause-entries
returns-in-Err-clause-entries g c =
    for_memory c.reply_to.result c.from.result c.in-Err.fault _ c.from.ensures c.reply_to.ensures.memory (λ e.
    replaced_may (g.D.Shelf.world c.args.shelf.now) (g.D.Shelf.world c.replace.new.self) c.args.name.now
    c.args.octets.now (rw e at c.in-Err.ensures.after))
