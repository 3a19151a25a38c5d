use Rattle.wot_subpacket.proofs.ReadFromStart.{list-slices}
use Rattle.wot_subpacket.proofs.area.Area.new.Goals as goal

pub returns-in-Ok-clause-slices : goal.returns-in-Ok-clause-slices
returns-in-Ok-clause-slices c = list-slices c.args.bytes.now
