use Rattle.std.specs.Prelude.{IfOk}
use Rattle.std.proofs.Common.{subst}
use Rattle.wot_reach.specs.Reach.{IsReach, Table}
use Rattle.wot_network.specs.Net.{Present, network_for}
use Rattle.wot_answers.proofs.ask.made_reach.Goals as goal

pub returns : goal.returns
returns c = record {
  reach = subst (λ (present : Present). IfOk c.make_reach.result
      (λ (reach : Table). IsReach (network_for present) c.args.parts.now.roots.now reach))
      c.requires.present c.make_reach.ensures.reach;
}
