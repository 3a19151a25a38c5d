use Rattle.wot_packet.proofs.Exact.{one_fault}
use Rattle.wot_packet.proofs.laws.one_fault.Goals as goal

pub returns : goal.returns
returns c = one_fault
