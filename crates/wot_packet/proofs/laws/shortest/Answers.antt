use Rattle.wot_packet.proofs.Shortest.{shortest_is_header, shortest_least}
use Rattle.wot_packet.proofs.laws.shortest.Goals as goal

pub returns : goal.returns
returns c = record { is_header = shortest_is_header; least = shortest_least }
