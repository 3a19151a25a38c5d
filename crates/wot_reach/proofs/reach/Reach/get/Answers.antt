use Rattle.std.proofs.Common.{ap, ◌∙◌}
use Rattle.wot_reach.specs.Reach.{Table, number_at}
use Rattle.wot_reach.proofs.reach.Reach.get.Goals as goal

pub returns-in-Some : goal.returns-in-Some
returns-in-Some c = record {
  number =
      c.in-Some.ensures.tells c.self.inside.numbers.entries c.self.invariant.0
      ∙ ap (λ (table : Table). number_at table c.args.fpr.now) c.self.view_is;
}
