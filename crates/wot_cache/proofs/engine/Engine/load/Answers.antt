use Rattle.wot_policy.specs.Kept.{rows_of}
use Rattle.wot_cache.proofs.Changes.{changes_keyring, imported_into, judging_inside}
use Rattle.wot_cache.proofs.Inside.{engine_on}
use Rattle.wot_cache.proofs.engine.Engine.load.Goals as goal

pub load-requires-clause-judging : goal.load-requires-clause-judging
load-requires-clause-judging g c =
    judging_inside _ c.args.policy.now c.args.self.now c.self.inside.networked.keyring
    c.self.inside.networked.views.entries c.self.inside.networked.networks.entries c.self.view_is c.requires.judging

pub returns-clause-imported : goal.returns-clause-imported
returns-clause-imported g c =
    imported_into c.load.result c.args.self.now c.self.inside.networked.keyring c.load.new.self
    c.self.inside.networked.views.entries c.self.inside.networked.networks.entries (rows_of c.args.policy.now)
    c.args.bytes.now c.self.view_is c.load.ensures.imported c.load.ensures.held

pub returns-clause-judging : goal.returns-clause-judging
returns-clause-judging g c = c.load.ensures.judging

pub returns-clause-changes : goal.returns-clause-changes
returns-clause-changes g c =
    changes_keyring c.args.self.now c.self.inside.networked.keyring c.load.new.self
    c.self.inside.networked.views.entries c.self.inside.networked.networks.entries c.self.view_is
    c.load.ensures.next.counted c.load.ensures.next.limits

pub invariant_of-self : goal.invariant_of-self
invariant_of-self g c =
    engine_on c.kept_fits_later.ensures.fits c.kept_fits_later.ensures.further c.self.inside.networked.keyring
    c.load.new.self c.self.inside.networked.views.entries c.self.inside.networked.networks.entries
    c.self.inside.answers.entries c.load.ensures.next.limits c.load.ensures.next.later c.load.ensures.next.counted
    c.self.invariant
