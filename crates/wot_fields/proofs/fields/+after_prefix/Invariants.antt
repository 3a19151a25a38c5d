use Rattle.std.proofs.Common.{length}
use Rattle.wot_fields.proofs.fields.+after_prefix.Given as goal

abbrev pub decreases-after_prefix : goal.decreases-after_prefix
decreases-after_prefix l = length l.prefix.now
