use Rattle.std.proofs.Common.{◌≡◌, ◌<◌, ◌∙◌, ℕ, List, None, length, ap, subst, sym}
use Rattle.std.specs.BTreeMap.{insert_entry}
use Rattle.wot_types.specs.ViewName.{view_name_cmp}
use Rattle.wot_cache.specs.declared.view.View.{View}
use Rattle.wot_cache.specs.State.{Engine}
use Rattle.wot_cache.specs.Revisions.{AreRevisionsOf, IsOneRevision, Revisions, turned}
use Rattle.wot_cache.specs.Views.{Views, view_at}
use Rattle.wot_cache.proofs.Inside.{opened_within}
use Rattle.wot_cache.proofs.OpenViewsMarks.{opened_open}
use Rattle.wot_cache.proofs.RevisionsOfViews.{opened_turns, opening}
use Rattle.wot_cache.proofs.engine.Engine.open.Goals as goal

pub invariant_of-self-in-Ok : goal.invariant_of-self-in-Ok
invariant_of-self-in-Ok c =
    let views = c.self.inside.networked.views.entries in
    let name = c.args.view.now in
    let none : view_at views name ≡ None = subst (λ (e : Engine). view_at e.views name ≡ None) (sym c.self.view_is)
    c.requires.closed in
    let view : View = record { time = c.args.t; roots = c.new.result } in
    let more : Views = insert_entry view_name_cmp views name view in
    record {
      small = c.self.invariant.small;
      within = opened_within c.self.inside.networked.keyring.limits views c.open.new.views.entries name c.args.t
          c.open.result
          (subst (λ (e : Engine). length e.views < e.keyring.limits.views) (sym c.self.view_is) c.requires.room)
          (rw c.new.ensures.none at c.open.ensures.opened) c.open.ensures.kept c.self.invariant.within;
      fit = c.self.invariant.fit;
      right = c.self.invariant.right;
      of_open = opened_open views c.open.new.views.entries c.self.inside.networked.networks.entries name _ c.open.result
          c.open.ensures.opened c.open.ensures.kept c.self.invariant.of_open;
      answered = opened_open views c.open.new.views.entries c.self.inside.answers.entries name _ c.open.result
          c.open.ensures.opened c.open.ensures.kept c.self.invariant.answered;
      turned = subst (λ (vs : Views). AreRevisionsOf vs c.begin.new.self) (sym c.in-Ok.ensures.opened)
          (subst (λ (ts : Revisions). AreRevisionsOf more ts)
          (sym (c.in_ok-begin.ensures.begun ∙ ap (λ (n : List ℕ). turned n c.self.inside.revisions)
          c.in_ok-duplicate.ensures.equal)) (opened_turns views c.self.inside.revisions name view none
          c.self.invariant.turned));
    }

pub returns-in-Ok-clause-turned : goal.returns-in-Ok-clause-turned
returns-in-Ok-clause-turned c =
    let views = c.self.inside.networked.views.entries in
    let revisions = c.self.inside.revisions in
    let name = c.args.view.now in
    let none : view_at views name ≡ None = subst (λ (e : Engine). view_at e.views name ≡ None) (sym c.self.view_is)
    c.requires.closed in
    let view : View = record { time = c.args.t; roots = c.new.result } in
    let more : Views = insert_entry view_name_cmp views name view in
    let begun : c.begin.new.self ≡ turned name revisions =
    c.in_ok-begin.ensures.begun ∙ ap (λ (n : List ℕ). turned n revisions) c.in_ok-duplicate.ensures.equal in
    subst (λ (e : Engine). IsOneRevision name e.views e.revisions c.open.new.views.entries c.begin.new.self) c.self.view_is
    (subst (λ (vs : Views). IsOneRevision name views revisions vs c.begin.new.self) (sym c.in-Ok.ensures.opened)
    (subst (λ (ts : Revisions). IsOneRevision name views revisions more ts) (sym begun) (opening views revisions name view none)))
