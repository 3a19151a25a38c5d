use Rattle.wot_answers.specs.RightLaws.{all_right_without}
use Rattle.wot_cache.proofs.Inside.{within_closed, fit_without}
use Rattle.wot_cache.proofs.OpenViewsMarks.{closed_open, gone_itself, none_shown, others_left, others_marked}
use Rattle.std.proofs.Common.{rules, ◌≡◌, true, subst, sym}
use Rattle.std.specs.Prelude.{is_some}
use Rattle.wot_cache.specs.State.{Engine}
use Rattle.wot_cache.specs.Revisions.{IsOneClosing, Revisions}
use Rattle.wot_cache.specs.Views.{view_at}
use Rattle.wot_cache.proofs.RevisionsOfViews.{closed_turns, closing}
use Rattle.wot_cache.proofs.engine.Engine.view_close.Goals as goal

pub invariant_of-self : goal.invariant_of-self
invariant_of-self c = record {
  small = c.self.invariant.small;
  within = rw c.close.ensures.closed (within_closed c.self.inside.networked.keyring.limits
      c.self.inside.networked.views.entries c.args.view.now c.self.invariant.within);
  fit = rw c.forget.ensures.forgotten
      (fit_without c.self.inside.networked.keyring c.self.inside.networked.networks.entries c.args.view.now
      c.self.invariant.fit);
  right = rw c.forget-2.ensures.forgotten (all_right_without c.self.inside.networked.keyring
      c.self.inside.answers.entries c.args.view.now c.self.invariant.right);
  of_open = closed_open c.self.inside.networked.views.entries c.close.new.views.entries
      c.self.inside.networked.networks.entries c.forget.new.networks.entries
      c.args.view.now c.close.ensures.gone c.forget.ensures.gone c.self.invariant.of_open;
  answered = closed_open c.self.inside.networked.views.entries c.close.new.views.entries c.self.inside.answers.entries
      c.forget-2.new.answers.entries
      c.args.view.now c.close.ensures.gone c.forget-2.ensures.gone c.self.invariant.answered;
  turned = closed_turns c.self.inside.networked.views.entries c.close.new.views.entries c.self.inside.revisions
      c.forget-3.new.self c.args.view.now c.close.ensures.gone c.forget-3.ensures.gone c.self.invariant.turned;
}

pub returns-clause-others : goal.returns-clause-others
returns-clause-others c =
    others_marked c.forget-3.new.self c.args.self.now c.self.inside.networked.keyring c.self.inside.networked.keyring
    c.self.inside.networked.views.entries c.close.new.views.entries
    c.self.inside.networked.networks.entries c.forget.new.networks.entries c.args.view.now c.self.view_is
    (others_left c.args.view.now c.self.inside.networked.networks.entries c.forget.new.networks.entries
    c.forget.ensures.gone)

pub returns-clause-forgotten : goal.returns-clause-forgotten
returns-clause-forgotten c =
    none_shown c.forget-3.new.self c.self.inside.networked.keyring c.close.new.views.entries
    c.forget.new.networks.entries c.args.view.now
    (gone_itself c.args.view.now c.self.inside.networked.networks.entries c.forget.new.networks.entries
    c.forget.ensures.gone)

pub returns-clause-turned : goal.returns-clause-turned
returns-clause-turned c =
    let views = c.self.inside.networked.views.entries in
    let there : is_some (view_at views c.args.view.now) ≡ true = search rules in
    subst (λ (e : Engine). IsOneClosing c.args.view.now e.views e.revisions c.close.new.views.entries c.forget-3.new.self)
    c.self.view_is
    (subst (λ (ts : Revisions). IsOneClosing c.args.view.now views c.self.inside.revisions c.close.new.views.entries ts)
    (sym c.forget-3.ensures.forgotten)
    (closing views c.close.new.views.entries c.self.inside.revisions c.args.view.now there c.close.ensures.gone))
