use Rattle.std.proofs.Common.{◌-◌, drop, get_or, subst, sym, ap, ◌∙◌, arith}
use Rattle.wot_packet.specs.Spelling.{spelled_all, spelled_of}
use Rattle.wot_cert.specs.Drafting.{IsSketch, Sketch, with_packet}
use Rattle.wot_cert.proofs.Sketches.{sketched-rises, sketched-before}
use Rattle.wot_cert.proofs.assembling.draft_of.Goals as goal

pub put_packet-requires : goal.put_packet-requires
put_packet-requires c =
    record {
      sketch = subst (λ (s : Sketch). IsSketch s) (sym c.back.invariant.drafted)
          (sketched-rises (spelled_all (drop c.back.left c.args.packets.now)));
    }

pub back-preserved : goal.back-preserved
back-preserved c = record {
  within = omega (arith, c.back.invariant.within);
  drafted = c.in_ok-put_packet.ensures.put
      ∙ ap (with_packet (spelled_of (get_or c.args.packets.now (c.back.left - 1) _))) c.back.invariant.drafted
      ∙ sketched-before c.args.packets.now c.back.left _ c.back-test.true c.back.invariant.within;
}
