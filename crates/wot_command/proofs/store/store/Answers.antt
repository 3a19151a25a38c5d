use Rattle.std.proofs.Common.{sym}
use Rattle.wot_cache.specs.State.{state_of}
use Rattle.wot_command.specs.CommandRun.{Seen}
use Rattle.wot_plain.proofs.Results.{if_ok}
use Rattle.wot_command.proofs.Calling.{ran_absent, ran_stored}
use Rattle.wot_command.proofs.store.store.Goals as goal

pub returns-in-Some-clause-did : goal.returns-in-Some-clause-did
returns-in-Some-clause-did g c rows =
    let before : Seen = record {
      world = g.D.Shelf.world c.args.shelf.now;
      faults =
          g.D.Shelf.faults c.args.shelf.now;
    } in
    let after : Seen = record {
      world = g.D.Shelf.world c.store_kept.new.shelf;
      faults =
          g.D.Shelf.faults c.store_kept.new.shelf;
    } in
    if_ok c.store_kept.result _ _ (λ reply s.
    ran_stored rows c.args.fpr.now c.in-Some.kept.now (state_of c.args.engine.now) before reply after
    (sym c.in-Some.ensures.found) s) c.store_kept.ensures.stores

pub returns-in-None-clause-did : goal.returns-in-None-clause-did
returns-in-None-clause-did g c rows =
    rw c.reply_to_missing.ensures.reply (ran_absent rows c.args.fpr.now (state_of c.args.engine.now)
    (record { world = g.D.Shelf.world c.args.shelf.now; faults = g.D.Shelf.faults c.args.shelf.now })
    (sym c.in-None.ensures.found))

pub returns-in-Some-clause-untouched : goal.returns-in-Some-clause-untouched
returns-in-Some-clause-untouched g c none = absurd (cc (c.in-Some.ensures.found, none))

pub returns-in-Some-clause-entries : goal.returns-in-Some-clause-entries
returns-in-Some-clause-entries g c = c.store_kept.ensures.entries (state_of c.args.engine.now)
    (sym c.in-Some.ensures.found)
