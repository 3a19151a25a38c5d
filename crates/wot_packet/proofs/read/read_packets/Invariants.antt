use Rattle.std.proofs.Common.{length, ◌-◌}
use Rattle.wot_packet.proofs.PacketByPacket.{ReadSoFar}
use Rattle.wot_packet.proofs.read.read_packets.Given as goal

abbrev pub invariant-packets : goal.invariant-packets
invariant-packets l = ReadSoFar l.bytes l.at l.packets.items

abbrev pub decreases-packets : goal.decreases-packets
decreases-packets l = length l.bytes - l.at
