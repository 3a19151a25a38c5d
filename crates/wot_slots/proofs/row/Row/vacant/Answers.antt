use Rattle.wot_slots.proofs.Placed.{no_entries}
use Rattle.wot_slots.proofs.row.Row.vacant.Goals as goal

pub returns-clause-vacant : goal.returns-clause-vacant
returns-clause-vacant g c =
    no_entries c.resize.new.self.items c.new-entries.result.items c.new-entries.ensures.items
