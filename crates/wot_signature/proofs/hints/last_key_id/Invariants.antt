use Rattle.wot_signature.specs.Known.{last_body_of}
use Rattle.wot_signature.proofs.Walk.{Walked}
use Rattle.wot_signature.proofs.hints.last_key_id.Given as goal

abbrev pub invariant-loop-sub : goal.invariant-loop-sub
invariant-loop-sub l = Walked (last_body_of 16) l.area l.sub-iterator l.last
