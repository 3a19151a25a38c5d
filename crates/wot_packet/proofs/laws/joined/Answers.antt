use Rattle.wot_packet.proofs.TextsJoined.{joined}
use Rattle.wot_packet.proofs.laws.joined.Goals as goal

pub returns : goal.returns
returns c = joined
