-- What reading returns.
use Rattle.std.specs.Prelude.{◌≡◌, List, Result, Ok, Err}
use Rattle.wot_packet.specs.Spelling.{Spelled}
use Rattle.wot_packet.specs.declared.packet.PacketFault.{PacketFault}
use Rattle.wot_packet.specs.declared.packet.ReadFault.{ReadFault}
use Rattle.wot_packet.specs.declared.packet.ReadFault.TheVariants.{Packet, Memory}
use Rattle.wot_packet.specs.declared.packet.Why.{Why}

-- What was found, seen so, or why nothing was, is what the plain reader returns.
abbrev pub Finds : {T X : Type 0} → (T → X) → Result T Why → Result X Why → Type 0
Finds seen (Ok found) read = read ≡ Ok (seen found)
Finds seen (Err why) read = read ≡ Err why

-- This holds for the text's fault, if the error is one.
abbrev pub IfPacket : ReadFault → (PacketFault → Type 0) → Type 0
IfPacket (Packet fault) P = P fault
IfPacket Memory P = Unit {0}

-- The result is what the plain reader returns, unless memory ran out.
abbrev pub ReturnsAsPlain :
    {T : Type 0} → (T → List Spelled) → Result T ReadFault → Result (List Spelled) PacketFault → Type 0
ReturnsAsPlain seen (Ok found) read = read ≡ Ok (seen found)
ReturnsAsPlain seen (Err (Packet fault)) read = read ≡ Err fault
ReturnsAsPlain seen (Err Memory) read = Unit {0}

-- The result, whose list is seen so, is that list, unless memory ran out.
abbrev pub AnswersList : {T : Type 0} → (T → List Spelled) → Result T ReadFault → List Spelled → Type 0
AnswersList seen (Ok found) packets = seen found ≡ packets
AnswersList seen (Err (Packet fault)) packets = ⊥
AnswersList seen (Err Memory) packets = Unit {0}

-- The result is that fault, unless memory ran out.
abbrev pub AnswersFault : {T : Type 0} → Result T ReadFault → PacketFault → Type 0
AnswersFault (Ok found) fault = ⊥
AnswersFault (Err (Packet found)) fault = found ≡ fault
AnswersFault (Err Memory) fault = Unit {0}
