use Rattle.std.proofs.Common.{◌-◌}
use Rattle.wot_signature.specs.Lent.{lent_parts}
use Rattle.wot_signature.proofs.Slices.{within_whole}
use Rattle.wot_signature.proofs.parts.parts_of.Goals as goal

pub returns-in-4-clause-slice : goal.returns-in-4-clause-slice
returns-in-4-clause-slice c =
    within_whole (λ parts. (lent_parts parts).hashed) c.areas_v4.result c.args.body.now c.areas_v4.ensures.slice

pub returns-in-6-clause-slice : goal.returns-in-6-clause-slice
returns-in-6-clause-slice c =
    within_whole (λ parts. (lent_parts parts).hashed) c.areas_v6.result c.args.body.now c.areas_v6.ensures.slice
