use Rattle.std.proofs.Common.{rules, sym, ◌∙◌}
use Rattle.wot_kept_signature.proofs.NewOctets.{unparseable}
use Rattle.wot_kept_signature.proofs.new_octets.octets_of.Goals as goal

pub assembled-requires-clause-new : goal.assembled-requires-clause-new
assembled-requires-clause-new c =
    let said = sym c.read_signature.ensures.facts ∙ c.in-None.is in
    rw c.octet.ensures (unparseable c.args.number.now c.args.body.now (search rules) said)
