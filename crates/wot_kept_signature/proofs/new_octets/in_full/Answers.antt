use Rattle.std.proofs.Common.{rules}
use Rattle.wot_kept_signature.proofs.NewOctets.{full_kept}
use Rattle.wot_kept_signature.proofs.new_octets.in_full.Goals as goal

pub assembled-requires-clause-new : goal.assembled-requires-clause-new
assembled-requires-clause-new c =
    let head = c.head-head.ensures in
    let others = c.others-others.ensures in
    let h = full_kept c.args.facts c.args.named c.args.at c.args.number.now c.args.body.now (search rules) head.made head.at
    others.lasts others.key_lasts c.requires.found c.requires.facts in
    rw head.head (rw others.others h)
