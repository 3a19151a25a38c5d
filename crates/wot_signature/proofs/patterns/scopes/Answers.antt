use Rattle.wot_signature.proofs.Slices.{texts-slices_if_any}
use Rattle.wot_signature.proofs.patterns.scopes.Goals as goal

pub returns-clause-slices : goal.returns-clause-slices
returns-clause-slices c = texts-slices_if_any c.args.body.now c.subs_of.result c.subs_of.ensures.slices
