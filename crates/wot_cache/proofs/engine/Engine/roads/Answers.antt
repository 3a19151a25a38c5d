use Rattle.std.proofs.Common.{rules, ◌≡◌, ◌+◌, ◌≤◌, true, Ok, refl, subst}
use Rattle.std.specs.Prelude.{IfSome, is_some}
use Rattle.std.proofs.lemmas.Result.{err_from_is_err_and}
use Rattle.wot_network.specs.Net.{signatures_in}
use Rattle.wot_network.specs.Roads.{present_of}
use Rattle.wot_cache.specs.declared.view.View.{View}
use Rattle.wot_cache.specs.Marks.{end_in}
use Rattle.wot_cache.specs.Question.{IsLocalTo}
use Rattle.wot_cache.specs.State.{Engine}
use Rattle.wot_cache.specs.Views.{view_at}
use Rattle.wot_cache.proofs.PartsAnswer.{keyring_seen, same_engine, seen_after, time_seen}
use Rattle.wot_cache.proofs.OpenViewsMarks.{engine_after, err_less, if_err, left, made_as}
use Rattle.wot_cache.proofs.engine.Engine.roads.Goals as goal

pub returns : goal.returns
returns c =
    let name = c.args.view.now in
    let k = c.refresh.new.self.keyring in
    let views = c.refresh.new.self.views.entries in
    let p = c.parts.result in
    let same = same_engine c.args.self.now c.self.inside.networked.keyring k c.self.inside.networked.views.entries views
    c.self.view_is c.refresh.ensures.keyring c.refresh.ensures.views in
    let seen = seen_after c.args.self.now c.self.inside.networked.keyring k c.self.inside.networked.views.entries views
    name p c.self.view_is
    c.refresh.ensures.keyring c.refresh.ensures.views c.parts.ensures.parts in
    let made = made_as (view_at c.self.inside.networked.views.entries name) (Ok tt) _ c.self.inside.networked.keyring
    (end_in c.self.inside.networked.networks.entries name c.args.steps.now.made)
    (end_in c.refresh.new.self.networks.entries name c.refresh.new.steps.made)
    (λ ok. refl) c.in_ok-refresh.ensures.made in (
      (
        refl,
        λ engine. tt,
        left _ c.args.self.now c.self.inside.networked.keyring k c.self.inside.networked.views.entries views
            c.self.inside.networked.networks.entries c.refresh.new.self.networks.entries name c.args.steps.now.made
            c.refresh.new.steps.made c.self.view_is
            c.refresh.ensures.keyring c.refresh.ensures.views made c.refresh.ensures.others c.refresh.ensures.closed,
      ),
      record {
        refreshed = tt;
        keyring = keyring_seen c.args.self.now name p seen;
        time = time_seen c.args.self.now name p seen;
        entries = c.parts.ensures.entries;
        lawful = c.parts.ensures.lawful;
        local = subst (λ (e : Engine). IfSome (view_at e.views name) (λ (v : View). IsLocalTo e.keyring v.time
            (present_of p.roads))) same c.parts.ensures.local;
        «open» = subst (λ (e : Engine). is_some (view_at e.views name) ≡ true) c.self.view_is
            c.in_ok-refresh.ensures.open;
        made_most = subst (λ (e : Engine). c.refresh.new.steps.made ≤ c.args.steps.now.made + signatures_in e.keyring)
            c.self.view_is c.refresh.ensures.made_most;
        never_less = c.refresh.ensures.never_less;
      },
    )

pub returns-in_err-refresh : goal.returns-in_err-refresh
returns-in_err-refresh c =
    let p = err_from_is_err_and c.from_residual.result c.from_residual.ensures.1 in
    let made = made_as (view_at c.self.inside.networked.views.entries c.args.view.now) c.refresh.result
    c.from_residual.result
    c.self.inside.networked.keyring
    (end_in c.self.inside.networked.networks.entries c.args.view.now c.args.steps.now.made)
    (end_in c.refresh.new.self.networks.entries c.args.view.now c.refresh.new.steps.made)
    (err_less c.refresh.result c.from_residual.result p.0 p.1) c.refresh.ensures.made in (
      (
        refl,
        λ engine. tt,
        left c.from_residual.result c.args.self.now c.self.inside.networked.keyring c.refresh.new.self.keyring
            c.self.inside.networked.views.entries
            c.refresh.new.self.views.entries c.self.inside.networked.networks.entries
            c.refresh.new.self.networks.entries c.args.view.now c.args.steps.now.made
            c.refresh.new.steps.made c.self.view_is c.refresh.ensures.keyring c.refresh.ensures.views made
            c.refresh.ensures.others c.refresh.ensures.closed,
      ),
      record {
        refreshed = tt;
        keyring = if_err c.from_residual.result _ p.0 p.1;
        time = if_err c.from_residual.result _ p.0 p.1;
        entries = if_err c.from_residual.result _ p.0 p.1;
        lawful = if_err c.from_residual.result _ p.0 p.1;
        local = if_err c.from_residual.result _ p.0 p.1;
        «open» = search rules;
        made_most = subst (λ (e : Engine). c.refresh.new.steps.made ≤ c.args.steps.now.made + signatures_in e.keyring)
            c.self.view_is c.refresh.ensures.made_most;
        never_less = c.refresh.ensures.never_less;
      },
    )

pub invariant_of-self : goal.invariant_of-self
invariant_of-self c =
    engine_after c.self.inside.answers.entries c.self.inside.networked.keyring c.refresh.new.self.keyring
    c.self.inside.networked.views.entries c.refresh.new.self.views.entries
    c.self.inside.networked.networks.entries c.refresh.new.self.networks.entries c.args.view.now c.args.steps.now.made
    c.refresh.new.steps.made
    c.refresh.ensures.keyring c.refresh.ensures.views c.refresh.ensures.fit c.refresh.ensures.others
    c.refresh.ensures.closed c.self.invariant

pub invariant_of-self-2 : goal.invariant_of-self-2
invariant_of-self-2 c =
    engine_after c.self.inside.answers.entries c.self.inside.networked.keyring c.refresh.new.self.keyring
    c.self.inside.networked.views.entries c.refresh.new.self.views.entries
    c.self.inside.networked.networks.entries c.refresh.new.self.networks.entries c.args.view.now c.args.steps.now.made
    c.refresh.new.steps.made
    c.refresh.ensures.keyring c.refresh.ensures.views c.refresh.ensures.fit c.refresh.ensures.others
    c.refresh.ensures.closed c.self.invariant
