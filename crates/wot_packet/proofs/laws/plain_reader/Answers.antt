use Rattle.wot_packet.proofs.Exact.{list_read, fault_read, read_list, read_fault}
use Rattle.wot_packet.proofs.laws.plain_reader.Goals as goal

pub returns : goal.returns
returns c = record {
  lists = λ text packets h. (read_list text packets h, list_read text packets);
  faults = λ text fault h. (read_fault text fault h, fault_read text fault);
}
