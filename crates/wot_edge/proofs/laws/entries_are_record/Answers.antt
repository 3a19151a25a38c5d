use Rattle.wot_edge.proofs.Recorded.{is_record}
use Rattle.wot_edge.proofs.laws.entries_are_record.Goals as goal

pub returns : goal.returns
returns c = record { lawful = is_record }
