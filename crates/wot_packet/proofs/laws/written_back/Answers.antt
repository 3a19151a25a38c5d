use Rattle.wot_packet.specs.Writing.{placed, written_all}
use Rattle.wot_packet.proofs.Exact.{list_read}
use Rattle.wot_packet.proofs.Shortest.{written_back}
use Rattle.wot_packet.proofs.laws.written_back.Goals as goal

pub returns : goal.returns
returns c = record {
  spelled = written_back;
  reader = λ packets h. list_read (written_all packets) (placed 0 packets) (written_back packets h);
}
