use Rattle.std.proofs.Common.{◌≡◌, ◌+◌, suc, subst, ℕ, arith}
use Rattle.wot_first_path.specs.Quest.{quest_of}
use Rattle.wot_first_path.specs.Growth.{IsAfter}
use Rattle.wot_first_path.proofs.FirstPathFound.{after_begin}
use Rattle.wot_search.proofs.offers.layers_of.Goals as goal

pub layers-preserved : goal.layers-preserved
layers-preserved g c =
    let quest = quest_of (g.R.Roads.network c.args.roads.now) c.args.quest.now in
    let n : suc c.layers.size ≡ c.layers.size + 1 = omega arith in
    subst (λ (m : ℕ). IsAfter quest m c.advance.new.reached (λ fpr. Unit {0})) n
    (c.in_ok-advance.ensures.after c.layers.invariant)

pub layers-init : goal.layers-init
layers-init g c =
    after_begin (quest_of (g.R.Roads.network c.args.roads.now) c.args.quest.now) c.in_ok-reached.reached (λ fpr. Unit {0})
    c.in_ok-reached.ensures.nodes c.in_ok-reached.ensures.layer

pub returns : goal.returns
returns g c =
    let quest = quest_of (g.R.Roads.network c.args.roads.now) c.args.quest.now in
    let test = c.layers-test.false in
    let end : c.layers.size ≡ c.args.count = omega (arith, test) in
    record { after = subst (λ (m : ℕ). IsAfter quest m c.layers.reached (λ fpr. Unit {0})) end c.layers.invariant }
