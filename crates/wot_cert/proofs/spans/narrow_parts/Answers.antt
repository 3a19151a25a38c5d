use Rattle.wot_cert.proofs.Narrow.{narrowed-append, parts-more}
use Rattle.wot_cert.proofs.spans.narrow_parts.Goals as goal

pub loop-part-preserved : goal.loop-part-preserved
loop-part-preserved c =
    rw (
      parts-more c.args.created c.args.parts.now c.loop-part.part-index c.part-item.result c.loop-part-test.true,
      ← c.part-item.is,
    )
    (narrowed-append _ _ _ _ _ _ c.loop-part.invariant c.narrow_part.ensures)
