use Rattle.wot_random.proofs.IdentitiesSoFar.{MadeSoFar}
use Rattle.wot_random.proofs.keys.identities.Given as goal

abbrev pub invariant-loop-index : goal.invariant-loop-index
invariant-loop-index l = MadeSoFar l.initial.words.start l.index l.words l.made.items
