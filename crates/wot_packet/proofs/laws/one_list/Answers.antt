use Rattle.wot_packet.proofs.Exact.{one_list}
use Rattle.wot_packet.proofs.laws.one_list.Goals as goal

pub returns : goal.returns
returns c = one_list
