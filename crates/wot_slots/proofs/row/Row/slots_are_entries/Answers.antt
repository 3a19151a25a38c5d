use Rattle.std.proofs.Common.{subst}
use Rattle.wot_slots.specs.Row.{HasEntries}
use Rattle.wot_slots.proofs.Placed.{has_entries}
use Rattle.wot_slots.proofs.row.Row.slots_are_entries.Goals as goal

pub returns : goal.returns
returns g c = record {
  entries =
      subst (λ r. HasEntries r.items r.came) c.self.view_is
      (has_entries c.self.inside.places.items c.self.inside.entries.items c.self.invariant.few);
}
