use Rattle.wot_packet.proofs.Shortest.{written_first}
use Rattle.wot_packet.proofs.laws.written_first.Goals as goal

pub returns : goal.returns
returns c kind body text packets can spelled = written_first kind body text packets can.0 can.1 spelled
