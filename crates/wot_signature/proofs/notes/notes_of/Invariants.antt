use Rattle.wot_signature.specs.Notes.{notes_in}
use Rattle.wot_signature.proofs.Walk.{Walked}
use Rattle.wot_signature.proofs.notes.notes_of.Given as goal

abbrev pub invariant-loop-sub : goal.invariant-loop-sub
invariant-loop-sub l = Walked (notes_in l.kind l.hash) l.hashed l.sub-iterator l.notes
