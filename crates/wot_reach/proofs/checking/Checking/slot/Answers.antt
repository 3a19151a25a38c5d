use Rattle.std.proofs.Common.{sym, subst}
use Rattle.wot_reach.specs.Making.{IsChecking}
use Rattle.wot_reach.specs.Reach.{Table}
use Rattle.wot_reach.proofs.checking.Checking.slot.Goals as goal

pub returns : goal.returns
returns c = record {
  checking = λ network roots is.
      subst (λ (table : Table). IsChecking network roots
      (record c.args.self { reach = table; slotted = c.saturating_add.result })) (sym c.add_slot.ensures.same)
      (record { onward = is.onward; enough = is.enough });
}
