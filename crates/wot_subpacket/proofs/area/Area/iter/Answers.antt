use Rattle.std.proofs.Common.{arith}
use Rattle.wot_subpacket.proofs.ReadFromStart.{length-list_of}
use Rattle.wot_subpacket.proofs.area.Area.iter.Goals as goal

pub returns-clause-countable : goal.returns-clause-countable
returns-clause-countable c = omega (arith, length-list_of c.self.inside.bytes.now, c.self.told)
