use Rattle.std.proofs.Common.{◌≡◌, map, drop, false}
use Rattle.wot_cert.specs.Fault.{fault_from}
use Rattle.wot_packet.specs.Spelling.{spelled_of}
use Rattle.wot_cert.proofs.first_fault.first_fault_of.Given as goal

abbrev pub invariant-loop-packet : goal.invariant-loop-packet
invariant-loop-packet l =
    fault_from l.behind_key (map spelled_of (drop l.packet-index l.packets)) ≡ fault_from false
    (map spelled_of l.packets)
