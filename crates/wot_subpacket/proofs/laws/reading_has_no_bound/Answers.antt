use Rattle.wot_subpacket.proofs.ReadFromStart.{subpackets-first, subpackets-none, subpackets-any_bound}
use Rattle.wot_subpacket.proofs.laws.reading_has_no_bound.Goals as goal

pub returns : goal.returns
returns c = record { nothing = subpackets-none; first = subpackets-first; any_bound = subpackets-any_bound }
