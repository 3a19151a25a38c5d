use Rattle.std.proofs.Common.{◌∙◌, refl, sym, subst}
use Rattle.wot_cert.specs.Span.{InSpan}
use Rattle.wot_cert.specs.declared.moments.Span.{Span}
use Rattle.wot_network.proofs.Made.{in_its_span}
use Rattle.wot_network.proofs.making.make.Goals as goal

pub returns-clause-made : goal.returns-clause-made
returns-clause-made c =
    let e = c.in_ok-rows.ensures in
    record {
      stamp = refl;
      span = subst (λ (s : Span). InSpan s c.args.t) (sym e.span)
          (in_its_span c.args.cert.now c.args.t c.ranges.t.fits);
      tells = λ u h. record {
        edges = e.throughout u h;
        standing = e.standing u h ∙ sym c.standing_by_edges-standing.ensures.standing;
        revoked = e.revoked_throughout u h;
      };
      rows = record { into = e.into; order = e.order };
    }
