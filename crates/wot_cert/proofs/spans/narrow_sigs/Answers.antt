use Rattle.wot_cert.specs.Span.{sig_moments}
use Rattle.wot_cert.proofs.Narrow.{narrowed-append, flat_map-more}
use Rattle.wot_cert.proofs.spans.narrow_sigs.Goals as goal

pub loop-sig-preserved : goal.loop-sig-preserved
loop-sig-preserved c =
    rw (
      flat_map-more (sig_moments c.args.created) c.args.sigs.now c.loop-sig.sig-index c.sig-item.result
          c.loop-sig-test.true,
      ← c.sig-item.is,
    )
    (narrowed-append _ _ _ _ _ _ c.loop-sig.invariant c.narrow_sig.ensures)
