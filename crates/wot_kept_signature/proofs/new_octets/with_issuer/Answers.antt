use Rattle.std.proofs.Common.{rules}
use Rattle.wot_kept_signature.proofs.NewOctets.{plain_kept}
use Rattle.wot_kept_signature.proofs.new_octets.with_issuer.Goals as goal

pub assembled-requires-clause-new : goal.assembled-requires-clause-new
assembled-requires-clause-new c =
    let head = c.head-head.ensures in
    let plain = c.is_plain.ensures.plain c.if-is_plain.true in
    let h = plain_kept c.args.facts c.args.at c.args.number.now c.args.body.now (search rules) head.made head.at plain
    c.requires.found c.requires.facts in
    rw head.head h
