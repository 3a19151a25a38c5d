use Rattle.std.proofs.Common.{subst}
use Rattle.wot_slots.specs.Live.{AreFound}
use Rattle.wot_slots.proofs.row.Row.entries_are_found.Goals as goal

pub returns : goal.returns
returns g c = record { found = subst (λ r. AreFound r.items r.came) c.self.view_is c.self.invariant.found }
