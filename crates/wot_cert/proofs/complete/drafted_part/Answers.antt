use Rattle.std.proofs.Common.{List, subst, sym}
use Rattle.wot_component.specs.Certificate.{Signature, sig_cmp}
use Rattle.wot_component.specs.Ranked.{IsRising}
use Rattle.wot_cert.specs.Drafting.{bodies_in}
use Rattle.wot_cert.proofs.CertificateWithKey.{sigs-rise}
use Rattle.wot_cert.proofs.complete.drafted_part.Goals as goal

pub new-requires : goal.new-requires
new-requires c =
    record {
      rises = subst (λ (sigs : List Signature). IsRising sig_cmp sigs) (sym c.in_ok-put_fresh_sigs.ensures.sigs)
          (sigs-rise c.args.key.now c.args.kind c.args.body.now (bodies_in c.args.sigs.now) c.requires.rises);
    }
