use Rattle.std.proofs.Common.{refl}
use Rattle.wot_keyring_spec.specs.Held.{cert_in}
use Rattle.wot_policy.specs.Kept.{rows_of}
use Rattle.wot_cache.specs.State.{state_of}
use Rattle.wot_command.proofs.Lasting.{held_still, judging_still}
use Rattle.wot_command.proofs.Calling.{none_kept}
use Rattle.wot_command.proofs.state.call.Goals as goal

pub load-requires : goal.load-requires
load-requires g c = record { ready = c.requires.ready; judging = c.requires.judging }

pub returns-in-Load-clause-did : goal.returns-in-Load-clause-did
returns-in-Load-clause-did g c = rw c.in-Load.is c.load.ensures.did

pub returns-in-Load-clause-entries : goal.returns-in-Load-clause-entries
returns-in-Load-clause-entries g c = rw c.in-Load.is c.load.ensures.entries

pub returns-in-Load-clause-held : goal.returns-in-Load-clause-held
returns-in-Load-clause-held g c = c.load.ensures.held

pub returns-in-Load-clause-judging : goal.returns-in-Load-clause-judging
returns-in-Load-clause-judging g c = c.load.ensures.judging

pub returns-in-Store-clause-did : goal.returns-in-Store-clause-did
returns-in-Store-clause-did g c = rw c.in-Store.is (c.store.ensures.did (rows_of c.args.policy.now))

pub returns-in-Store-clause-untouched : goal.returns-in-Store-clause-untouched
returns-in-Store-clause-untouched g c =
    rw c.in-Store.is (λ none.
    c.store.ensures.untouched (none_kept (cert_in (state_of c.args.engine.now).held c.in-Store.fpr) c.in-Store.fpr
    none))

pub returns-in-Store-clause-entries : goal.returns-in-Store-clause-entries
returns-in-Store-clause-entries g c = rw c.in-Store.is c.store.ensures.entries

pub returns-in-Store-clause-held : goal.returns-in-Store-clause-held
returns-in-Store-clause-held g c = held_still c.args.engine.now c.requires.ready

pub returns-in-Store-clause-judging : goal.returns-in-Store-clause-judging
returns-in-Store-clause-judging g c =
    judging_still g.F.Fn c.args.policy.now c.args.engine.now.keyring c.args.engine.now.keyring refl
    c.requires.judging
