use Rattle.std.proofs.Common.{◌≡◌, ◌≤◌, ◌-◌, ◌++◌, take, drop, length}
use Rattle.wot_packet.specs.Spelling.{spelled_all}
use Rattle.wot_cert.specs.Packets.{is_key}
use Rattle.wot_cert.specs.Assembly.{cut_at}
use Rattle.wot_cert.proofs.assembling.before_key.Given as goal

abbrev pub invariant-packets : goal.invariant-packets
invariant-packets l = record {
  within : l.count ≤ length l.packets;
  before : (cut_at is_key (spelled_all l.packets)).0 ≡ take l.count
      (spelled_all l.packets) ++ (cut_at is_key (drop l.count (spelled_all l.packets))).0;
  behind : (cut_at is_key (spelled_all l.packets)).1 ≡ (cut_at is_key (drop l.count (spelled_all l.packets))).1;
}

abbrev pub decreases-packets : goal.decreases-packets
decreases-packets l = length l.packets - l.count
