use Rattle.std.proofs.Common.{◌≡◌, ◌≢◌, Some, OnOk, sym, subst}
use Rattle.wot_keyring_spec.specs.Held.{verdict_set}
use Rattle.wot_keyring_spec.specs.Keyring.{verdict_on}
use Rattle.wot_keyring_spec.specs.Kept.{IsJudgedBy}
use Rattle.wot_keyring_spec.specs.Verdict.{with_verdict_on}
use Rattle.wot_cache.specs.State.{Engine}
use Rattle.wot_cache.proofs.Changes.{changes_keyring, held_state}
use Rattle.wot_cache.proofs.Inside.{engine_on}
use Rattle.wot_cache.proofs.engine.Engine.set_verdict.Goals as goal

pub returns-clause-judged : goal.returns-clause-judged
returns-clause-judged c rows judged =
    c.set_verdict.ensures.judged rows (subst (λ (e : Engine). IsJudgedBy rows e.keyring) (sym c.self.view_is) judged)

pub returns-clause-set : goal.returns-clause-set
returns-clause-set c =
    subst (λ (e : Engine). OnOk c.set_verdict.result (verdict_on e.keyring c.args.number ≢ Some c.args.verdict →
    c.set_verdict.new.self ≡ with_verdict_on c.args.number c.args.verdict e.keyring))
    c.self.view_is c.set_verdict.ensures.set

pub returns-clause-state : goal.returns-clause-state
returns-clause-state c =
    held_state c.set_verdict.result c.args.self.now c.self.inside.networked.keyring c.set_verdict.new.self
    c.self.inside.networked.views.entries
    (verdict_set c.args.number c.args.verdict) c.self.view_is c.set_verdict.ensures.held

pub returns-clause-changes : goal.returns-clause-changes
returns-clause-changes c =
    changes_keyring c.args.self.now c.self.inside.networked.keyring c.set_verdict.new.self
    c.self.inside.networked.views.entries c.self.inside.networked.networks.entries c.self.view_is
    c.set_verdict.ensures.counted c.set_verdict.ensures.limits

pub invariant_of-self : goal.invariant_of-self
invariant_of-self c =
    engine_on c.kept_fits_later.ensures.fits c.kept_fits_later.ensures.further c.self.inside.networked.keyring
    c.set_verdict.new.self c.self.inside.networked.views.entries c.self.inside.networked.networks.entries
    c.self.inside.answers.entries c.set_verdict.ensures.limits c.set_verdict.ensures.later
    c.set_verdict.ensures.counted c.self.invariant
