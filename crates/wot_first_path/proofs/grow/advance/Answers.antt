use Rattle.std.proofs.Common.{inl, inr, refl, ap, subst, ◌∙◌, List}
use Rattle.std.specs.Prelude.{Vec}
use Rattle.std.specs.declared.alloc.Global.{Global}
use Rattle.wot_types.specs.declared.fpr.Fpr.{Fpr}
use Rattle.wot_first_path.specs.Quest.{quest_of}
use Rattle.wot_first_path.specs.Looked.{IsNearOne}
use Rattle.wot_first_path.specs.Reached.{look}
use Rattle.wot_first_path.proofs.OneLayer.{ready_start, after_more, unrooted_more, near_leads}
use Rattle.wot_first_path.proofs.grow.advance.Goals as goal

pub returns-in_err-grow-clause-leads : goal.returns-in_err-grow-clause-leads
returns-in_err-grow-clause-leads g c a fpr h =
    let quest = quest_of (g.R.Roads.network c.args.roads.now) c.args.quest.now in
    let layer = c.deref.ensures.value ∙ ap (λ (v : Vec Fpr Global). v.items) c.replace-layer.ensures.value in
    elim (c.in_err-grow.ensures.gains fpr h) [
      | inl k ↦ inl k
      | inr n ↦ inr
          (near_leads quest (look c.args.reached.now.nodes) c.args.size c.args.reached.now.layer.items fpr a.layer
          (subst (λ (xs : List Fpr). IsNearOne quest.question.network xs fpr) layer n))
    ]

pub returns-clause-leads : goal.returns-clause-leads
returns-clause-leads g c a fpr h =
    let quest = quest_of (g.R.Roads.network c.args.roads.now) c.args.quest.now in
    let layer = c.deref.ensures.value ∙ ap (λ (v : Vec Fpr Global). v.items) c.replace-layer.ensures.value in
    elim (c.in_ok-grow.ensures.gains fpr h) [
      | inl k ↦ inl k
      | inr n ↦ inr
          (near_leads quest (look c.args.reached.now.nodes) c.args.size c.args.reached.now.layer.items fpr a.layer
          (subst (λ (xs : List Fpr). IsNearOne quest.question.network xs fpr) layer n))
    ]

pub returns-clause-after : goal.returns-clause-after
returns-clause-after g c a =
    let quest = quest_of (g.R.Roads.network c.args.roads.now) c.args.quest.now in
    let layer = c.deref.ensures.value ∙ ap (λ (v : Vec Fpr Global). v.items) c.replace-layer.ensures.value in
    let empty = ap (λ (v : Vec Fpr Global). v.items) c.replace-layer.ensures.after ∙ c.new.ensures.items in
    after_more quest c.args.size c.args.reached.now _ c.grow.new.reached _ (g.N.Notes.noted c.args.notes.now)
    (g.N.Notes.noted c.grow.new.notes) c.in_ok-grow.ensures.all a refl empty layer c.in_ok-grow.ensures.grows

pub returns-clause-unrooted : goal.returns-clause-unrooted
returns-clause-unrooted g c a u =
    let quest = quest_of (g.R.Roads.network c.args.roads.now) c.args.quest.now in
    let found = look c.args.reached.now.nodes in
    let layer = c.deref.ensures.value ∙ ap (λ (v : Vec Fpr Global). v.items) c.replace-layer.ensures.value in
    let empty = ap (λ (v : Vec Fpr Global). v.items) c.replace-layer.ensures.after ∙ c.new.ensures.items in
    let all = c.in_ok-grow.ensures.all in
    unrooted_more quest c.args.size found (look c.grow.new.reached.nodes)
    (all.grows (ready_start quest c.args.size c.args.reached.now _ _ (g.N.Notes.noted c.args.notes.now) a refl empty
    layer)).onward u
