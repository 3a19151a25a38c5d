use Rattle.wot_signature.proofs.Slices.{slices_of_whole}
use Rattle.wot_signature.proofs.read_body.read_body_of.Goals as goal

pub returns-clause-slices : goal.returns-clause-slices
returns-clause-slices c =
    slices_of_whole c.in_ok-parts.parts.hashed.now c.args.body.now c.in-Ok.hashed c.in_ok-parts.ensures.slice
    c.in-Ok.ensures.slices
