use Rattle.std.proofs.Common.{sym, subst}
use Rattle.wot_keyring_spec.specs.Held.{verdict_cleared}
use Rattle.wot_keyring_spec.specs.Kept.{IsJudgedBy}
use Rattle.wot_cache.specs.State.{Engine}
use Rattle.wot_cache.proofs.Changes.{changes_keyring, held_state}
use Rattle.wot_cache.proofs.Inside.{engine_on}
use Rattle.wot_cache.proofs.engine.Engine.clear_verdict.Goals as goal

pub returns-clause-judged : goal.returns-clause-judged
returns-clause-judged c rows judged =
    c.clear_verdict.ensures.judged rows (subst (λ (e : Engine). IsJudgedBy rows e.keyring) (sym c.self.view_is) judged)

pub returns-clause-state : goal.returns-clause-state
returns-clause-state c =
    held_state c.clear_verdict.result c.args.self.now c.self.inside.networked.keyring c.clear_verdict.new.self
    c.self.inside.networked.views.entries
    (verdict_cleared c.args.number.now) c.self.view_is c.clear_verdict.ensures.held

pub returns-clause-changes : goal.returns-clause-changes
returns-clause-changes c =
    changes_keyring c.args.self.now c.self.inside.networked.keyring c.clear_verdict.new.self
    c.self.inside.networked.views.entries c.self.inside.networked.networks.entries c.self.view_is
    c.clear_verdict.ensures.counted c.clear_verdict.ensures.limits

pub invariant_of-self : goal.invariant_of-self
invariant_of-self c =
    engine_on c.kept_fits_later.ensures.fits c.kept_fits_later.ensures.further c.self.inside.networked.keyring
    c.clear_verdict.new.self c.self.inside.networked.views.entries c.self.inside.networked.networks.entries
    c.self.inside.answers.entries c.clear_verdict.ensures.limits c.clear_verdict.ensures.later
    c.clear_verdict.ensures.counted c.self.invariant
