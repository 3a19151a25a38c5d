use Rattle.std.proofs.Common.{ap, sym, ◌∙◌}
use Rattle.std.specs.Cmp.Lexicographic.{slice_cmp}
use Rattle.std.specs.Ordering.{nat_cmp}
use Rattle.wot_types.specs.Fpr.{octets_of}
use Rattle.wot_types.specs.FprOrder.{by_octets}
use Rattle.wot_types.proofs.fpr.compare_fprs.Goals as goal

pub returns-clause-octets : goal.returns-clause-octets
returns-clause-octets c =
    c.compare_octets.ensures ∙ ap (λ l. slice_cmp nat_cmp l c.octets-2.result.now) c.octets.ensures.octets
    ∙ ap (slice_cmp nat_cmp (octets_of c.args.left.now)) c.octets-2.ensures.octets
    ∙ sym (by_octets c.args.left.now c.args.right.now c.octets.ensures.size c.octets-2.ensures.size)
