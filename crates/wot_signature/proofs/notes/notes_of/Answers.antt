use Rattle.wot_subpacket.specs.Seen.{seen}
use Rattle.wot_signature.specs.Notes.{notes_in, note_more}
use Rattle.wot_signature.proofs.Last.{notes_in-push}
use Rattle.wot_signature.proofs.Walk.{walked_more}
use Rattle.wot_signature.proofs.notes.notes_of.Goals as goal

pub loop-sub-preserved : goal.loop-sub-preserved
loop-sub-preserved c =
    walked_more (notes_in c.args.kind c.args.hash) note_more (notes_in-push c.args.kind c.args.hash)
    _ c.loop-sub.sub-iterator c.loop-sub.notes (seen c.in-Some.sub) _ _ c.loop-sub.invariant c.in-Some.ensures.steps
    c.note.ensures
