use Rattle.std.proofs.Common.{◌<◌, subst, ◌∙◌, length, List}
use Rattle.wot_types.specs.declared.fpr.Fpr.{Fpr}
use Rattle.wot_first_path.specs.Quest.{quest_of}
use Rattle.wot_first_path.specs.Reached.{look}
use Rattle.wot_first_path.proofs.OneMoreTried.{chosen_more}
use Rattle.wot_first_path.proofs.choose.choose.Goals as goal

pub layer-preserved : goal.layer-preserved
layer-preserved c network =
    let quest = quest_of network c.args.quest.now in
    let layer = c.args.reached.now.layer.items in
    let lt = subst (λ (xs : List Fpr). c.layer.fpr-index < length xs) c.deref-fpr-items.ensures.value
    c.layer-test.true in
    let taken' = rw c.deref-fpr-items.ensures.value at (c.take-best.ensures network) in
    chosen_more quest (look c.args.reached.now.nodes) c.layer.best c.take-best.result layer c.layer.fpr-index _ lt
    taken' ∙ c.layer.invariant network
