use Rattle.wot_component.proofs.Copies.{same_part}
use Rattle.wot_component.proofs.part.PartRanked.again.Goals as goal

pub returns : goal.returns
returns c = same_part c.copied.result c.args.self.now c.copied.ensures
