use Rattle.std.proofs.Common.{refl}
use Rattle.wot_policy.specs.Kept.{rows_of}
use Rattle.wot_cache.specs.State.{state_of}
use Rattle.wot_plain.specs.declared.class.Class.TheVariants.{State as OfState}
use Rattle.wot_plain.specs.Entry.{use_by}
use Rattle.wot_plain.specs.declared.class.StateCommand.TheVariants as kinds
use Rattle.wot_command.proofs.PolicyAskedByLine.{always}
use Rattle.wot_plain.proofs.EdgesMadeByLine.{same_state}
use Rattle.wot_command.proofs.Lasting.{can_change, changes_none, judging_still, touches_none}
use Rattle.wot_plain.proofs.Results.{if_ok}
use Rattle.wot_command.proofs.Calling.{uncalled}
use Rattle.wot_command.proofs.state.run_state_command.Goals as goal

-- ---- a change of what is held

pub change-requires-clause-ready : goal.change-requires-clause-ready
change-requires-clause-ready g c = can_change c.args.engine.now c.requires.ready

pub change-requires-clause-judging : goal.change-requires-clause-judging
change-requires-clause-judging g c = c.requires.judging

pub returns-in-Change-clause-changes : goal.returns-in-Change-clause-changes
returns-in-Change-clause-changes g c = c.change.ensures.held.once

pub returns-in-Change-clause-makes : goal.returns-in-Change-clause-makes
returns-in-Change-clause-makes g c = rw c.in-Change.is (refl, c.change.ensures.held.marks)

pub returns-in-Change-clause-turned : goal.returns-in-Change-clause-turned
returns-in-Change-clause-turned g c = rw c.in-Change.is (always c.change.result _ c.change.ensures.held.revisions)

pub returns-in-Change-clause-directory : goal.returns-in-Change-clause-directory
returns-in-Change-clause-directory g c =
    touches_none c.change.result (state_of c.args.engine.now) (use_by (OfState c.args.command.now)) g.D.Shelf.world
    g.D.Shelf.faults c.args.shelf.now

pub returns-in-Change-clause-did : goal.returns-in-Change-clause-did
returns-in-Change-clause-did g c =
    rw c.in-Change.is
    (uncalled c.change.result (rows_of c.args.policy.now) (kinds.Change c.in-Change.what) (state_of c.args.engine.now)
    (record { world = g.D.Shelf.world c.args.shelf.now; faults = g.D.Shelf.faults c.args.shelf.now })
    (state_of c.change.new.engine) refl c.change.ensures.gives)

pub returns-in-Change-clause-asked : goal.returns-in-Change-clause-asked
returns-in-Change-clause-asked g c = rw c.in-Change.is c.change.ensures.asked

pub returns-in-Change-clause-judging : goal.returns-in-Change-clause-judging
returns-in-Change-clause-judging g c = c.change.ensures.judging

pub change-requires-clause-small : goal.change-requires-clause-small
change-requires-clause-small g c = rw c.in-Change.is at c.requires.read.small

pub returns-in-Change-clause-sure : goal.returns-in-Change-clause-sure
returns-in-Change-clause-sure g c = rw c.in-Change.is c.change.ensures.sure

-- ---- a change of a view

pub change_view-requires : goal.change_view-requires
change_view-requires g c = record {
  standard = c.requires.ready.standard;
  turnable = c.requires.ready.counts.revisions;
}

pub returns-in-View-clause-directory : goal.returns-in-View-clause-directory
returns-in-View-clause-directory g c =
    touches_none c.change_view.result (state_of c.args.engine.now) (use_by (OfState c.args.command.now)) g.D.Shelf.world
    g.D.Shelf.faults c.args.shelf.now

pub returns-in-View-clause-changes : goal.returns-in-View-clause-changes
returns-in-View-clause-changes g c =
    changes_none c.args.engine.now c.change_view.new.engine c.requires.ready c.change_view.ensures.keyring

pub returns-in-View-clause-judging : goal.returns-in-View-clause-judging
returns-in-View-clause-judging g c =
    judging_still g.F.Fn c.args.policy.now c.args.engine.now.keyring c.change_view.new.engine.keyring
    c.change_view.ensures.keyring c.requires.judging

pub returns-in-View-clause-did : goal.returns-in-View-clause-did
returns-in-View-clause-did g c =
    rw c.in-View.is
    (uncalled c.change_view.result (rows_of c.args.policy.now) (kinds.View c.in-View.view c.in-View.what)
    (state_of c.args.engine.now)
    (record { world = g.D.Shelf.world c.args.shelf.now; faults = g.D.Shelf.faults c.args.shelf.now })
    (state_of c.change_view.new.engine) refl c.change_view.ensures.gives)

pub returns-in-View-clause-makes : goal.returns-in-View-clause-makes
returns-in-View-clause-makes g c = rw c.in-View.is (c.change_view.ensures.marks c.args.steps.now.made)

pub returns-in-View-clause-turned : goal.returns-in-View-clause-turned
returns-in-View-clause-turned g c = rw c.in-View.is (always c.change_view.result _ c.change_view.ensures.turned)

pub returns-in-View-clause-sure : goal.returns-in-View-clause-sure
returns-in-View-clause-sure g c = rw c.in-View.is c.change_view.ensures.sure

-- ---- a question

pub returns-in-Question-clause-directory : goal.returns-in-Question-clause-directory
returns-in-Question-clause-directory g c =
    touches_none c.answer.result (state_of c.args.engine.now) (use_by (OfState c.args.command.now)) g.D.Shelf.world
    g.D.Shelf.faults c.args.shelf.now

pub returns-in-Question-clause-changes : goal.returns-in-Question-clause-changes
returns-in-Question-clause-changes g c =
    changes_none c.args.engine.now c.answer.new.engine c.requires.ready c.answer.ensures.keyring

pub returns-in-Question-clause-judging : goal.returns-in-Question-clause-judging
returns-in-Question-clause-judging g c =
    judging_still g.F.Fn c.args.policy.now c.args.engine.now.keyring c.answer.new.engine.keyring
    c.answer.ensures.keyring c.requires.judging

pub returns-in-Question-clause-did : goal.returns-in-Question-clause-did
returns-in-Question-clause-did g c =
    rw c.in-Question.is
    (uncalled c.answer.result (rows_of c.args.policy.now) (kinds.Question c.in-Question.view c.in-Question.what)
    (state_of c.args.engine.now)
    (record { world = g.D.Shelf.world c.args.shelf.now; faults = g.D.Shelf.faults c.args.shelf.now })
    (state_of c.answer.new.engine) refl
    (if_ok c.answer.result _ _
    (λ reply answers. (answers, same_state c.args.engine.now c.answer.new.engine c.answer.ensures.refreshed.stays))
    c.answer.ensures.answers))

pub returns-in-Question-clause-edges : goal.returns-in-Question-clause-edges
returns-in-Question-clause-edges g c = rw c.in-Question.is c.answer.ensures.edges

pub returns-in-Question-clause-makes : goal.returns-in-Question-clause-makes
returns-in-Question-clause-makes g c = rw c.in-Question.is c.answer.ensures.refreshed

pub answer-requires-clause-wanted : goal.answer-requires-clause-wanted
answer-requires-clause-wanted g c = rw c.in-Question.is at c.requires.read.fit

pub answer-requires-clause-small : goal.answer-requires-clause-small
answer-requires-clause-small g c = rw c.in-Question.is at c.requires.read.small

-- ---- what is read

pub read-requires : goal.read-requires
read-requires g c = record { standard = c.requires.ready.standard }

pub returns-in-Read-clause-directory : goal.returns-in-Read-clause-directory
returns-in-Read-clause-directory g c =
    touches_none c.read.result (state_of c.args.engine.now) (use_by (OfState c.args.command.now)) g.D.Shelf.world
    g.D.Shelf.faults c.args.shelf.now

pub returns-in-Read-clause-changes : goal.returns-in-Read-clause-changes
returns-in-Read-clause-changes g c = changes_none c.args.engine.now c.args.engine.now c.requires.ready refl

pub returns-in-Read-clause-judging : goal.returns-in-Read-clause-judging
returns-in-Read-clause-judging g c =
    judging_still g.F.Fn c.args.policy.now c.args.engine.now.keyring c.args.engine.now.keyring refl
    c.requires.judging

pub returns-in-Read-clause-did : goal.returns-in-Read-clause-did
returns-in-Read-clause-did g c =
    rw c.in-Read.is
    (uncalled c.read.result (rows_of c.args.policy.now) (kinds.Read c.in-Read.what) (state_of c.args.engine.now)
    (record { world = g.D.Shelf.world c.args.shelf.now; faults = g.D.Shelf.faults c.args.shelf.now })
    (state_of c.args.engine.now) refl (if_ok c.read.result _ _ (λ reply is. (is, refl)) c.read.ensures.reply))

pub returns-in-Read-clause-anew : goal.returns-in-Read-clause-anew
returns-in-Read-clause-anew g c = rw c.in-Read.is c.read.ensures.anew

-- ---- a call of the shelf

pub call-requires : goal.call-requires
call-requires g c = record {
  ready = can_change c.args.engine.now c.requires.ready;
  judging = c.requires.judging;
}

pub returns-in-Shelf-clause-changes : goal.returns-in-Shelf-clause-changes
returns-in-Shelf-clause-changes g c = c.call.ensures.held.once

pub returns-in-Shelf-clause-makes : goal.returns-in-Shelf-clause-makes
returns-in-Shelf-clause-makes g c = rw c.in-Shelf.is (refl, c.call.ensures.held.marks)

pub returns-in-Shelf-clause-turned : goal.returns-in-Shelf-clause-turned
returns-in-Shelf-clause-turned g c = rw c.in-Shelf.is (always c.call.result _ c.call.ensures.held.revisions)

pub returns-in-Shelf-clause-directory : goal.returns-in-Shelf-clause-directory
returns-in-Shelf-clause-directory g c = record {
  untouched = rw c.in-Shelf.is c.call.ensures.untouched;
  entries = rw c.in-Shelf.is c.call.ensures.entries;
  later = c.call.ensures.later;
}

pub returns-in-Shelf-clause-did : goal.returns-in-Shelf-clause-did
returns-in-Shelf-clause-did g c = rw c.in-Shelf.is c.call.ensures.did

pub returns-in-Shelf-clause-asked : goal.returns-in-Shelf-clause-asked
returns-in-Shelf-clause-asked g c = rw c.in-Shelf.is c.call.ensures.asked

pub returns-in-Shelf-clause-judging : goal.returns-in-Shelf-clause-judging
returns-in-Shelf-clause-judging g c = c.call.ensures.judging
