use Rattle.wot_packet.proofs.Exact.{list_or_fault, never_both}
use Rattle.wot_packet.proofs.laws.list_or_fault.Goals as goal

pub returns : goal.returns
returns c = record { either = list_or_fault; never_both = never_both }
