-- Why a list of packets isn't a list of certificates: the first fault in the order of the packets.
use Rattle.std.specs.Prelude.{Bool, false, ◌||◌, ◌==◌, if◌then◌else◌, List, [], ◌∷◌, Option, Some, None}
use Rattle.std.specs.Option.{option_or}
use Rattle.wot_packet.specs.Spelling.{Spelled}
use Rattle.wot_cert.specs.declared.fault.CertFault.{CertFault}
use Rattle.wot_cert.specs.declared.fault.CertFault.TheVariants.{Compressed, Secret, Kind, Order, Empty}
use Rattle.wot_cert.specs.Packets.{is_key, is_component, is_signature, is_unknown, is_passed_over}

-- the fault of a packet, after a key or before the first one
abbrev pub fault_at : Bool → Spelled → Option CertFault
fault_at behind_key p =
    if p.kind == 8 then Some Compressed
    else if p.kind == 5 || p.kind == 7 then Some Secret
    else if is_key p.kind || (is_passed_over p.kind || is_unknown p.kind) then None
    else if is_signature p.kind || is_component p.kind then (if behind_key then None else Some (Order p.at))
    else Some (Kind p.kind p.at)

-- the first fault of these packets, after a key or before the first one
abbrev pub fault_from : Bool → List Spelled → Option CertFault
fault_from behind_key [] = if behind_key then None else Some Empty
fault_from behind_key (p ∷ ps) = option_or (fault_at behind_key p) (fault_from (behind_key || is_key p.kind) ps)

-- the first fault
abbrev pub first_fault : List Spelled → Option CertFault
first_fault packets = fault_from false packets
