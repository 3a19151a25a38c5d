use Rattle.std.proofs.Common.{◌≡◌, ◌≢◌, None, sym, subst, ◌∙◌}
use Rattle.std.specs.Prelude.{IfSome}
use Rattle.wot_edge.specs.Roots.{IsRoots, root_amount}
use Rattle.wot_cache.specs.declared.view.View.{View}
use Rattle.wot_cache.specs.State.{Engine}
use Rattle.wot_cache.specs.Revisions.{AreRevisionsOf, IsOneRevision, Revisions}
use Rattle.wot_cache.specs.Views.{view_at, root_fault}
use Rattle.wot_cache.proofs.Inside.{set_within}
use Rattle.wot_cache.proofs.OpenViewsMarks.{set_open}
use Rattle.wot_cache.proofs.RevisionsOfViews.{rooted_turns, rooting}
use Rattle.wot_cache.proofs.engine.Engine.view_root.Goals as goal

pub invariant_of-self-2 : goal.invariant_of-self-2
invariant_of-self-2 c = record {
  small = c.self.invariant.small;
  within = set_within c.self.inside.networked.keyring.limits c.self.inside.networked.views.entries
      c.set_amount.new.views.entries c.args.view.now c.args.fpr.now c.args.amount c.set_amount.result
      (subst (λ (e : Engine). IfSome (view_at e.views c.args.view.now) (λ (v : View). IsRoots v.roots))
      (sym c.self.view_is) c.root_fault.ensures.roots)
      (subst (λ (e : Engine). root_fault e.keyring.limits (view_at e.views c.args.view.now) c.args.fpr.now
      c.args.amount ≡ None) (sym c.self.view_is) (sym c.root_fault.ensures.fault ∙ c.in_default.is))
      c.set_amount.ensures.set c.set_amount.ensures.kept c.self.invariant.within;
  fit = c.self.invariant.fit;
  right = c.self.invariant.right;
  of_open = set_open c.self.inside.networked.views.entries c.set_amount.new.views.entries
      c.self.inside.networked.networks.entries c.args.view.now c.args.fpr.now
      c.args.amount c.set_amount.result c.set_amount.ensures.set c.set_amount.ensures.kept c.self.invariant.of_open;
  answered = set_open c.self.inside.networked.views.entries c.set_amount.new.views.entries c.self.inside.answers.entries
      c.args.view.now c.args.fpr.now
      c.args.amount c.set_amount.result c.set_amount.ensures.set c.set_amount.ensures.kept c.self.invariant.answered;
  turned = subst (λ (ts : Revisions). AreRevisionsOf c.set_amount.new.views.entries ts) (sym c.raise.ensures.raised)
      (rooted_turns c.self.inside.networked.views.entries c.set_amount.new.views.entries c.self.inside.revisions
      c.args.view.now c.args.fpr.now c.args.amount
      c.in_ok-set_amount.ensures.set c.self.invariant.turned);
}

pub returns-clause-turned : goal.returns-clause-turned
returns-clause-turned c =
    let views = c.self.inside.networked.views.entries in
    let revisions = c.self.inside.revisions in
    let name = c.args.view.now in
    subst (λ (e : Engine). IsOneRevision name e.views e.revisions c.set_amount.new.views.entries c.raise.new.self)
    c.self.view_is
    (subst (λ (ts : Revisions). IsOneRevision name views revisions c.set_amount.new.views.entries ts) (sym c.raise.ensures.raised)
    (rooting views c.set_amount.new.views.entries revisions name c.args.fpr.now c.args.amount
    (subst (λ (e : Engine). IfSome (view_at e.views name) (λ (v : View). IsRoots v.roots)) (sym c.self.view_is)
    c.root_fault.ensures.roots)
    (subst (λ (e : Engine). IfSome (view_at e.views name)
    (λ (v : View). root_amount v.roots c.args.fpr.now ≢ c.args.amount)) (sym c.self.view_is)
    (c.has_root.ensures.other c.if-has_root.false))
    c.in_ok-set_amount.ensures.set))
