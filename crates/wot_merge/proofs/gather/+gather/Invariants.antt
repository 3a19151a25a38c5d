use Rattle.std.proofs.Common.{length}
use Rattle.wot_merge.proofs.gather.+gather.Given as goal

abbrev pub decreases-gather : goal.decreases-gather
decreases-gather l = length l.list.now
