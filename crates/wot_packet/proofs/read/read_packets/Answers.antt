use Rattle.std.proofs.Common.{sym, ap, ◌∙◌, arith}
use Rattle.wot_packet.specs.Reading.{first_of}
use Rattle.wot_packet.specs.Spelling.{IsFirstFault, spelled_all}
use Rattle.wot_packet.proofs.Bounds.{packet_bounds, packets_short, packets_few}
use Rattle.wot_packet.proofs.Exact.{one_list, one_fault, never_both, list_read, fault_read}
use Rattle.wot_packet.proofs.PacketByPacket.{one_more, all_read, fault_here}
use Rattle.wot_packet.proofs.read.read_packets.Goals as goal
use Rattle.wot_packet.proofs.read.read_packets.Goals.{After-drop-packets}

told : (c : After-drop-packets) → IsFirstFault c.args.bytes.now (record { at = c.packets.at; why = c.in-Err.why })
told c =
    fault_here c.args.bytes.now c.packets.at c.packets.packets.items c.in-Err.why
    (λ i. omega (arith, c.type_inv.bytes i)) c.packets.invariant c.packets-test.true
    (ap first_of (sym c.split_at.ensures.back) ∙ c.in-Err.ensures.first)

pub returns-in-Err-clause-fault : goal.returns-in-Err-clause-fault
returns-in-Err-clause-fault c = told c

pub returns-in-Err-clause-reader : goal.returns-in-Err-clause-reader
returns-in-Err-clause-reader c = fault_read c.args.bytes.now (record { at = c.packets.at; why = c.in-Err.why }) (told c)

pub returns-in-Err-clause-each_list : goal.returns-in-Err-clause-each_list
returns-in-Err-clause-each_list c =
    λ packets h. never_both c.args.bytes.now packets (record { at = c.packets.at; why = c.in-Err.why }) h (told c)

pub returns-in-Err-clause-each_fault : goal.returns-in-Err-clause-each_fault
returns-in-Err-clause-each_fault c =
    λ fault h. one_fault c.args.bytes.now (record { at = c.packets.at; why = c.in-Err.why }) fault (told c) h

pub packets-preserved : goal.packets-preserved
packets-preserved c =
    rw c.in_ok-push.ensures.items
    (one_more c.args.bytes.now c.packets.at c.packets.packets.items c.in-Ok.found.0 c.in-Ok.found.1.now
    (λ i. omega (arith, c.type_inv.bytes i)) c.packets.invariant c.packets-test.true
    c.in-Ok.ensures.offset (ap first_of (sym c.split_at.ensures.back) ∙ c.in-Ok.ensures.first))

pub returns-clause-each_list : goal.returns-clause-each_list
returns-clause-each_list c = λ packets h.
    one_list c.args.bytes.now (spelled_all c.packets.packets.items) packets
    (all_read c.args.bytes.now c.packets.at c.packets.packets.items c.packets.invariant c.packets-test.false) h

pub returns-clause-each_fault : goal.returns-clause-each_fault
returns-clause-each_fault c = λ fault h.
    never_both c.args.bytes.now (spelled_all c.packets.packets.items) fault
    (all_read c.args.bytes.now c.packets.at c.packets.packets.items c.packets.invariant c.packets-test.false) h

pub returns-clause-bounds : goal.returns-clause-bounds
returns-clause-bounds c =
    packet_bounds c.args.bytes.now c.packets.packets.items (λ i. omega (arith, c.type_inv.bytes i))
    (all_read c.args.bytes.now c.packets.at c.packets.packets.items c.packets.invariant c.packets-test.false)

pub returns-clause-short : goal.returns-clause-short
returns-clause-short c =
    packets_short c.args.bytes.now c.packets.packets.items (λ i. omega (arith, c.type_inv.bytes i))
    (all_read c.args.bytes.now c.packets.at c.packets.packets.items c.packets.invariant c.packets-test.false)

pub returns-clause-few : goal.returns-clause-few
returns-clause-few c =
    packets_few c.args.bytes.now c.packets.packets.items
    (all_read c.args.bytes.now c.packets.at c.packets.packets.items c.packets.invariant c.packets-test.false)

pub returns-clause-reader : goal.returns-clause-reader
returns-clause-reader c =
    list_read c.args.bytes.now (spelled_all c.packets.packets.items)
    (all_read c.args.bytes.now c.packets.at c.packets.packets.items c.packets.invariant c.packets-test.false)
