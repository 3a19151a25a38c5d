-- The numbers of the reasons in replies.
use Rattle.std.specs.Prelude.{ℕ}
use Rattle.wot_packet.specs.declared.packet.Why.{Why}
use Rattle.wot_packet.specs.declared.packet.Why.TheVariants.{NotAPacket, CutLength, CutBody, Partial, Indeterminate}

abbrev pub number_of : Why → ℕ
number_of NotAPacket = 1
number_of CutLength = 2
number_of CutBody = 3
number_of Partial = 4
number_of Indeterminate = 5
