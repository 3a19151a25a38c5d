-- What the code finds, without where it lies in memory.
use Rattle.std.specs.Prelude.{ℕ, List}
use Rattle.wot_packet.specs.Reading.{Headed, First}
use Rattle.wot_packet.specs.declared.header.Header.{Header}
use Rattle.wot_packet.specs.declared.packet.Packet.{Packet}

abbrev pub headed_seen : Header → Headed
headed_seen header = record { kind = header.kind; size = header.length; rest = header.rest.now }

abbrev pub first_seen : Packet → List ℕ → First
first_seen packet rest = record { kind = packet.kind; body = packet.body.now; rest = rest }
