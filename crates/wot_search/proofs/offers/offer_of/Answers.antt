use Rattle.std.proofs.Common.{sym, ◌∙◌, arith}
use Rattle.wot_search.proofs.offers.offer_of.Goals as goal

pub returns-then-left_of_root-quest : goal.returns-then-left_of_root-quest
returns-then-left_of_root-quest c network le node at long =
    let left = c.left_of_root.ensures network in
    let few = c.if-left_of_root-quest.true in
    absurd (omega (arith, left, few, le))

pub returns : goal.returns
returns c network =
    let left = c.left_of_root.ensures network in
    let enough = c.if-left_of_root-quest.false in
    record {
      left = omega (arith, left, enough);
      node = c.in-Some.node;
      at = sym c.node_at.ensures ∙ c.in-Some.is;
      long = c.if-node-size.false;
      steps = c.in_ok-path.ensures.steps;
      root = c.in_ok-path.ensures.root;
      amount = c.in_ok-path.ensures.amount;
    }
