use Rattle.std.proofs.Common.{rules}
use Rattle.wot_kept_signature.proofs.NewOctets.{not_kept}
use Rattle.wot_kept_signature.proofs.new_octets.with_facts.Goals as goal

pub assembled-requires-clause-new : goal.assembled-requires-clause-new
assembled-requires-clause-new c = rw c.octet.ensures (not_kept c.args.number.now c.args.body.now (search rules))

pub assembled-requires-in-None-place_of-clause-new : goal.assembled-requires-in-None-place_of-clause-new
assembled-requires-in-None-place_of-clause-new c =
    rw c.octet-in-None-place_of.ensures (not_kept c.args.number.now c.args.body.now (search rules))
