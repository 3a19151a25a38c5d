use Rattle.std.proofs.Common.{arith, refl}
use Rattle.std.specs.Prelude.{codes}
use Rattle.wot_fields.proofs.LineParts.{fpr_digits}
use Rattle.wot_fields.proofs.Spaceless.{lacks_from_test, lacks_test}
use Rattle.wot_reply_lines.proofs.laws.entry_is_read.Goals as goal

pub returns-in-Cert : goal.returns-in-Cert
returns-in-Cert c =
    let digits = fpr_digits c.in-Cert.fpr c.printed_is_read.ensures.read_back in
    rw c.in-Cert.is (record {
      read = rw c.printed_is_read.ensures.read_back refl;
      short = omega (arith, digits.size);
      free = digits.free;
    })

pub returns-in-TrustRoot : goal.returns-in-TrustRoot
unfolding lacks_test
returns-in-TrustRoot c = rw c.in-TrustRoot.is (record {
  read = refl;
  short = omega arith;
  free = lacks_from_test 10 (codes "trust-root") refl;
})
