use Rattle.std.proofs.Common.{length}
use Rattle.wot_answers.specs.Looked.{AreStill}
use Rattle.wot_answers.proofs.looked.are_still.Given as goal

abbrev pub invariant-rest : goal.invariant-rest
invariant-rest l = AreStill l.keyring l.roots l.rest → AreStill l.keyring l.roots l.looked

abbrev pub decreases-rest : goal.decreases-rest
decreases-rest l = length l.rest
