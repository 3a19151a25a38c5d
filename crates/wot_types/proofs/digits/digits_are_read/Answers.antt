use Rattle.std.proofs.Common.{arith, ap, refl, length}
use Rattle.std.specs.Result.{result_ok}
use Rattle.hex.proofs.HexLemmas.{decode_sized-encode_lower}
use Rattle.wot_types.proofs.digits.digits_are_read.Goals as goal

pub returns : goal.returns
returns c =
    ap result_ok (decode_sized-encode_lower c.args.octets.now (length c.args.octets.now) refl
    (λ i. omega (arith, c.type_inv.octets i)))
