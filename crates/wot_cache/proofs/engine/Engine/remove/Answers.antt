use Rattle.std.proofs.Common.{rules, sym, subst}
use Rattle.wot_keyring_spec.specs.Held.{removing}
use Rattle.wot_keyring_spec.specs.Kept.{IsJudgedBy}
use Rattle.wot_cache.specs.State.{Engine}
use Rattle.wot_cache.proofs.Changes.{changes_keyring, found, held_state}
use Rattle.wot_cache.proofs.Inside.{engine_on}
use Rattle.wot_cache.proofs.engine.Engine.remove.Goals as goal

pub returns-clause-judged : goal.returns-clause-judged
returns-clause-judged c rows judged =
    c.remove.ensures.judged rows (subst (λ (e : Engine). IsJudgedBy rows e.keyring) (sym c.self.view_is) judged)

pub returns-clause-state : goal.returns-clause-state
returns-clause-state c =
    held_state c.remove.result c.args.self.now c.self.inside.networked.keyring c.remove.new.self
    c.self.inside.networked.views.entries
    (removing c.args.fpr.now) c.self.view_is c.remove.ensures.held

pub returns-clause-absent : goal.returns-clause-absent
returns-clause-absent c = search (rules, found)

pub returns-clause-changes : goal.returns-clause-changes
returns-clause-changes c =
    changes_keyring c.args.self.now c.self.inside.networked.keyring c.remove.new.self
    c.self.inside.networked.views.entries c.self.inside.networked.networks.entries c.self.view_is
    c.remove.ensures.counted c.remove.ensures.limits

pub invariant_of-self : goal.invariant_of-self
invariant_of-self c =
    engine_on c.kept_fits_later.ensures.fits c.kept_fits_later.ensures.further c.self.inside.networked.keyring
    c.remove.new.self c.self.inside.networked.views.entries c.self.inside.networked.networks.entries
    c.self.inside.answers.entries c.remove.ensures.limits c.remove.ensures.later c.remove.ensures.counted
    c.self.invariant
